use Rattle.std.proofs.Common.{◌≡◌, Some, slice_get, ap, sym, subst, ◌∙◌, arith}
use Rattle.asl_machine.specs.State.{Frame, Activity}
use Rattle.asl_machine.specs.Frames.{frames_of}
use Rattle.asl_machine.proofs.Frames.{frame_below}
use Rattle.asl_machine.proofs.activity.Activity.frame.Goals as goal

pub returns : goal.returns
returns c =
    let inside = c.self.inside in
    subst (λ (a : Activity). Some c.index.result.now ≡ slice_get (frames_of a) c.args.index) c.self.view_is
    (ap (λ (f : Frame). Some f) c.index.ensures
    ∙ sym (frame_below inside.top inside.frames.items inside.below c.args.index c.index.result.now (omega (arith, c.if-index-eq0.false)) c.if-index-self.false c.self.invariant.0))
