use Rattle.std.proofs.Common.{arith}
use Rattle.asl_debugger.proofs.debugger.Debugger.last_stop.Goals as goal

pub nearest-requires : goal.nearest-requires
nearest-requires g c =
    let so_far = rw (← c.self.view_is) at c.loop-until.invariant in
    rw (← c.self.view_is) (omega (arith, so_far.within, c.self.invariant.within))
