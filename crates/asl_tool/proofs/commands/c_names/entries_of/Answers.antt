use Rattle.std.proofs.Common.{Some, ℕ, List, ap, ◌∙◌, string_bytes}
use Rattle.asl_map.specs.Names.{function_name}
use Rattle.asl_parallel_c.specs.declared.options.Extern.{Extern}
use Rattle.asl_tool.specs.C.{c_entry}
use Rattle.asl_tool.proofs.Found.{one_more}
use Rattle.asl_tool.proofs.commands.c_names.entries_of.Goals as goal

pub loop-name-preserved : goal.loop-name-preserved
loop-name-preserved c = record {
  functions =
      one_more (λ (e : Extern). function_name c.args.source_map.now e.function) string_bytes (λ (name : List ℕ). Some name) c.args.names.now c.loop-name.name-index c.name-item.result
      c.loop-name.entries.items c.push.new.self.items _ c.loop-name-test.true c.name-item.is c.in_ok-push.ensures.items (c.in-Some.ensures.some ∙ ap (λ (b : List ℕ). Some b) c.as_bytes.ensures.value) c.loop-name.invariant.functions;
  in_c =
      one_more (λ (e : Extern). string_bytes e.name) string_bytes c_entry c.args.names.now c.loop-name.name-index c.name-item.result
      c.loop-name.entries.items c.push.new.self.items _ c.loop-name-test.true c.name-item.is c.in_ok-push.ensures.items (c.in_ok-name.ensures ∙ ap c_entry c.as_str.ensures.value) c.loop-name.invariant.in_c;
}
