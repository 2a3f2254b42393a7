use Rattle.std.proofs.Common.{refl, sym, ◌∙◌, arith}
use Rattle.asl_class_text.specs.Kinds.{is_passed}
use Rattle.asl_class_text.proofs.Anywhere.{any_more, any_here, any_none}
use Rattle.asl_class_text.proofs.lines.goes_through_parameters.Goals as goal

pub loop-told-init : goal.loop-told-init
loop-told-init c = refl

pub loop-told-preserved : goal.loop-told-preserved
loop-told-preserved c = any_more (is_passed c.args.facts.now) c.args.chain.now c.loop-told.told-index _ c.loop-told-test.true (sym c.is_passed.ensures ∙ c.if-is_passed.false) c.loop-told.invariant

pub returns-then-is_passed : goal.returns-then-is_passed
returns-then-is_passed c = any_here (is_passed c.args.facts.now) c.args.chain.now c.loop-told.told-index _ c.loop-told-test.true (sym c.is_passed.ensures ∙ c.if-is_passed.true) c.loop-told.invariant

pub returns : goal.returns
returns c = any_none (is_passed c.args.facts.now) c.args.chain.now c.loop-told.told-index (omega arith) c.loop-told.invariant
