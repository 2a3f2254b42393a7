-- those that are found and those that are left are all
use Rattle.std.specs.Prelude.{Some}
use Rattle.std.proofs.Common.{◌≡◌, ◌++◌, drop, map, string_bytes}
use Rattle.asl_map.specs.Names.{function_name}
use Rattle.asl_parallel_c.specs.declared.options.Extern.{Extern}
use Rattle.asl_tool.specs.C.{c_entry}
use Rattle.asl_tool.proofs.commands.c_names.entries_of.Given as goal

abbrev pub invariant-loop-name : goal.invariant-loop-name
invariant-loop-name l = record {
  functions : map (λ (e : Extern). function_name l.source_map e.function) l.entries.items ++ map (λ name. Some name) (map string_bytes (drop l.name-index l.names)) ≡ map (λ name. Some name) (map string_bytes l.names);
  in_c : map (λ (e : Extern). string_bytes e.name) l.entries.items ++ map c_entry (map string_bytes (drop l.name-index l.names)) ≡ map c_entry (map string_bytes l.names);
}
