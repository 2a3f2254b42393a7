use Rattle.std.proofs.Common.{◌+◌, get_or, sym, subst, arith}
use Rattle.asl_backward_flow.specs.declared.region.Region.TheVariants as variant
use Rattle.asl_backward_flow.specs.Spans.{IsSpan}
use Rattle.asl_backward_flow.proofs.SpanLaws.{body_of_list}
use Rattle.asl_backward_flow.proofs.span.body_span.Goals as goal

pub overflow_cast-function : goal.overflow_cast-function
overflow_cast-function c = let b = body_of_list c.args.lowering.now c.functions.ensures.kept c.functions.result.now c.functions.ensures.functions c.args.number c.requires.there (record { params = 0; regs = 0; len = 0 }) in let n = b.number in omega arith

pub overflow_cast-result : goal.overflow_cast-result
overflow_cast-result c = let b = body_of_list c.args.lowering.now c.functions.ensures.kept c.functions.result.now c.functions.ensures.functions c.args.number c.requires.there (record { params = 0; regs = 0; len = 0 }) in let e = b.end in omega arith

pub overflow_add-result : goal.overflow_add-result
overflow_add-result c = let b = body_of_list c.args.lowering.now c.functions.ensures.kept c.functions.result.now c.functions.ensures.functions c.args.number c.requires.there (record { params = 0; regs = 0; len = 0 }) in let e = b.end in let s = c.start-first.ensures in omega arith

pub returns-clause-span : goal.returns-clause-span
returns-clause-span c =
    let b = body_of_list c.args.lowering.now c.functions.ensures.kept c.functions.result.now c.functions.ensures.functions c.args.number c.requires.there (record { params = 0; regs = 0; len = 0 }) in
    subst (λ first. IsSpan c.args.lowering.now (record { region = variant.Body c.args.number; function = c.args.number; first = first; end = first + (get_or c.functions.result.now c.args.number (record { params = 0; regs = 0; len = 0 })).len }))
    (sym c.start-first.ensures) (b.span c.requires.inner)
