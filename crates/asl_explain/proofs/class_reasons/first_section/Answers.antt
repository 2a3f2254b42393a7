use Rattle.std.proofs.Common.{refl, sym, ◌∙◌, arith}
use Rattle.asl_explain.proofs.FirstSection.{first_more, first_here, first_none}
use Rattle.asl_explain.proofs.class_reasons.first_section.Goals as goal

pub loop-number-init : goal.loop-number-init
loop-number-init c = refl

pub loop-number-preserved : goal.loop-number-preserved
loop-number-preserved c =
    first_more c.args.class c.args.lists.now c.loop-number.number c.index-lists-number.result c.as_slice.result.now (omega arith) (c.as_slice.ensures ∙ c.index-lists-number.is) (sym c.has_class.ensures ∙ c.if-has_class.false) c.loop-number.invariant

pub returns-then-has_class : goal.returns-then-has_class
returns-then-has_class c =
    first_here c.args.class c.args.lists.now c.loop-number.number c.index-lists-number.result c.as_slice.result.now (omega arith) (c.as_slice.ensures ∙ c.index-lists-number.is) (sym c.has_class.ensures ∙ c.if-has_class.true) c.loop-number.invariant

pub returns : goal.returns
returns c = first_none c.args.class c.args.lists.now c.loop-number.number (omega arith) c.loop-number.invariant
