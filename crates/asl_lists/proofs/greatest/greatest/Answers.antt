use Rattle.std.proofs.Common.{◌-◌, arith}
use Rattle.asl_lists.proofs.Lengths.{one_less}
use Rattle.asl_lists.proofs.greatest.greatest.Goals as goal

pub loop-opened-preserved : goal.loop-opened-preserved
loop-opened-preserved c =
    let small = c.loop-opened.invariant.0 in
    (omega (arith, small), one_less c.args.source.now c.loop-opened.k (c.loop-opened.k - 1) c.in-Err.fault (omega arith) c.loop-opened.invariant.1 c.if-not-is_too_many.ensures c.in-Err.ensures.refused)
