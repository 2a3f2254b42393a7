use Rattle.std.proofs.Common.{Some, refl, ap, sym, ◌∙◌}
use Rattle.asl_parallel_c.proofs.Externs.{name_here, name_left, no_name_left}
use Rattle.asl_parallel_c.proofs.names.extern_name.Goals as goal

pub loop-other-init : goal.loop-other-init
loop-other-init c = refl

pub returns-then-other-function : goal.returns-then-other-function
returns-then-other-function c =
    name_here c.args.externs.now c.loop-other.other-index c.other-item.result c.args.function _ c.loop-other-test.true c.other-item.is c.if-other-function.true c.loop-other.invariant
    ∙ ap Some (sym c.as_str.ensures.value)

pub loop-other-preserved : goal.loop-other-preserved
loop-other-preserved c = name_left c.args.externs.now c.loop-other.other-index c.other-item.result c.args.function _ c.loop-other-test.true c.other-item.is c.if-other-function.false c.loop-other.invariant

pub returns : goal.returns
returns c = no_name_left c.args.externs.now c.loop-other.other-index c.args.function _ c.loop-other-test.false c.loop-other.invariant
