use Rattle.std.proofs.Common.{arith}
use Rattle.asl_backward_flow.proofs.SpanLaws.{section_of_list}
use Rattle.asl_backward_flow.proofs.span.section_span.Goals as goal

pub overflow_cast-result : goal.overflow_cast-result
overflow_cast-result c =
    let b = section_of_list c.args.lowering.now c.sections.ensures.kept c.sections.result.now c.sections.ensures.sections c.args.number c.requires (record { function = 0; acquire = 0; release = 0 }) in
    let n = b.number in omega arith

pub overflow_add-result : goal.overflow_add-result
overflow_add-result c =
    let b = section_of_list c.args.lowering.now c.sections.ensures.kept c.sections.result.now c.sections.ensures.sections c.args.number c.requires (record { function = 0; acquire = 0; release = 0 }) in
    let a = b.acquire in let r = b.release in omega arith

pub returns-clause-span : goal.returns-clause-span
returns-clause-span c =
    (section_of_list c.args.lowering.now c.sections.ensures.kept c.sections.result.now c.sections.ensures.sections c.args.number c.requires (record { function = 0; acquire = 0; release = 0 })).span
