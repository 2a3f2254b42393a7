use Rattle.std.proofs.Common.{sym, subst, is_ok, List}
use Rattle.asl_debugger.specs.declared.trail.Mark.{Mark}
use Rattle.asl_debugger.specs.Checkpoints.{AreMarks}
use Rattle.asl_debugger.proofs.Marking.{left_or_not}
use Rattle.asl_debugger.proofs.trail.leave_mark.Goals as goal

pub returns-in-Ok : goal.returns-in-Ok
returns-in-Ok g c log at within are =
    subst (λ (ms : List Mark). AreMarks c.args.machine.now.image log ms) (sym c.push.ensures.items)
    (left_or_not (is_ok c.push.result) c.args.machine.now.image log c.args.marks.now.items c.args.machine.now c.args.position c.in-Ok.rest at within c.in-Ok.ensures.fits c.in-Ok.ensures.state are)
