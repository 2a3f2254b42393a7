-- what is made and what is left are all
use Rattle.std.specs.declared.alloc.Global.{Global}
use Rattle.std.specs.Prelude.{String, Vec, encode_utf8_all}
use Rattle.std.proofs.Common.{◌≡◌, ◌++◌, ℕ, List, drop, map, string_bytes}
use Rattle.asl_tool.proofs.commands.c_names.locals_of.Given as goal

abbrev pub invariant-loop-names : goal.invariant-loop-names
invariant-loop-names l =
    map (λ (names : Vec (String Global) Global). map string_bytes names.items) l.locals.items ++ map (λ (names : Vec (List ℕ) Global). map encode_utf8_all names.items) (drop l.names-index l.registers)
    ≡ map (λ (names : Vec (List ℕ) Global). map encode_utf8_all names.items) l.registers
