use Rattle.std.proofs.Common.{rules, Some, ℕ, List, ap, inr, take, ◌∙◌, string_bytes}
use Rattle.asl_map.specs.Names.{function_name}
use Rattle.asl_parallel_c.specs.declared.options.Extern.{Extern}
use Rattle.asl_syntax.specs.declared.fault.SyntaxFault.TheVariants as syntax
use Rattle.asl_tool.specs.declared.command_fault.CommandFault.TheVariants as fault
use Rattle.asl_tool.specs.C.{c_function, replaced}
use Rattle.asl_tool.proofs.Found.{one_more, one_more_made}
use Rattle.asl_tool.proofs.Printing.{unknown_function}
use Rattle.asl_tool.proofs.commands.c_names.externs_of.Goals as goal

pub loop-one-preserved : goal.loop-one-preserved
loop-one-preserved c =
    let made : Extern = record { function = c.in-Some.function; name = c.in-Ok.name } in
    record {
      functions =
          one_more (λ (e : Extern). function_name c.args.source_map.now e.function) replaced (λ (name : List ℕ). Some name) c.args.externs.now c.loop-one.one-index c.one-item.result
          c.loop-one.found.items c.push.new.self.items made c.loop-one-test.true c.one-item.is (search rules) (c.in-Some.ensures.some ∙ ap (λ (b : List ℕ). Some b) c.as_bytes.ensures.value) c.loop-one.invariant.functions;
      in_c =
          one_more_made (λ (e : Extern). string_bytes e.name) c_function c.args.externs.now c.loop-one.one-index c.one-item.result
          c.loop-one.found.items c.push.new.self.items made c.loop-one-test.true c.one-item.is (search rules) (search rules) c.loop-one.invariant.in_c;
    }

pub returns-in_default-clause-err : goal.returns-in_default-clause-err
returns-in_default-clause-err c = inr (unknown_function c.args.source_map.now c.args.externs.now c.one-item.result c.loop-one.one-index c.unknown.result c.loop-one-test.true c.one-item.is
    (c.unknown.ensures ∙ ap (λ (n : List ℕ). fault.Source (syntax.Unknown (take 64 n))) c.as_bytes-in_default.ensures.value)
    (search rules))
