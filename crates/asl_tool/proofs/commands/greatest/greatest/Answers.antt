use Rattle.std.proofs.Common.{◌-◌, arith}
use Rattle.asl_lists.proofs.Lengths.{one_fewer}
use Rattle.asl_tool.proofs.Printing.{too_many}
use Rattle.asl_tool.proofs.commands.greatest.greatest.Goals as goal

pub loop-program-preserved : goal.loop-program-preserved
loop-program-preserved c =
    let small = c.loop-program.invariant.0 in (
      omega (arith, small),
      one_fewer c.args.source.now c.loop-program.k (c.loop-program.k - 1) (omega arith) c.loop-program.invariant.1
          (too_many c.args.source.now c.loop-program.k c.in-Err.fault c.if-not-is_too_many.ensures c.in-Err.ensures.err),
    )
