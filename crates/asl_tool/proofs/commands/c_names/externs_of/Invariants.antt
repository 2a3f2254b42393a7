-- those that are found and those that are left are all
use Rattle.std.specs.Prelude.{Some}
use Rattle.std.proofs.Common.{◌≡◌, ◌++◌, drop, map, string_bytes}
use Rattle.asl_map.specs.Names.{function_name}
use Rattle.asl_parallel_c.specs.declared.options.Extern.{Extern}
use Rattle.asl_tool.specs.C.{c_function, replaced}
use Rattle.asl_tool.proofs.commands.c_names.externs_of.Given as goal

abbrev pub invariant-loop-one : goal.invariant-loop-one
invariant-loop-one l = record {
  functions : map (λ (e : Extern). function_name l.source_map e.function) l.found.items ++ map (λ name. Some name) (map replaced (drop l.one-index l.externs)) ≡ map (λ name. Some name) (map replaced l.externs);
  in_c : map (λ (e : Extern). string_bytes e.name) l.found.items ++ map c_function (drop l.one-index l.externs) ≡ map c_function l.externs;
}
