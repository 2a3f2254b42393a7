use Rattle.std.proofs.Common.{refl, sym, ap, ◌∙◌, arith}
use Rattle.asl_class_text.proofs.Anywhere.{any_more, any_here, any_none}
use Rattle.asl_explain.specs.ClassReasons.{is_on}
use Rattle.asl_explain.proofs.class_reasons.has_class.Goals as goal

pub loop-lock-init : goal.loop-lock-init
loop-lock-init c = refl

pub loop-lock-preserved : goal.loop-lock-preserved
loop-lock-preserved c =
    any_more (is_on c.args.class) c.args.list.now c.loop-lock.lock-index _ c.loop-lock-test.true (ap (is_on c.args.class) (sym c.lock-item.is) ∙ sym c.is_on.ensures ∙ c.if-is_on.false) c.loop-lock.invariant

pub returns-then-is_on : goal.returns-then-is_on
returns-then-is_on c =
    any_here (is_on c.args.class) c.args.list.now c.loop-lock.lock-index _ c.loop-lock-test.true (ap (is_on c.args.class) (sym c.lock-item.is) ∙ sym c.is_on.ensures ∙ c.if-is_on.true) c.loop-lock.invariant

pub returns : goal.returns
returns c = any_none (is_on c.args.class) c.args.list.now c.loop-lock.lock-index (omega arith) c.loop-lock.invariant
