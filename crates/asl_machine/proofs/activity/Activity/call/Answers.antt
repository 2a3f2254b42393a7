use Rattle.std.proofs.Common.{◌≡◌, ◌+◌, ◌<◌, ◌∷◌, [], ◌∙◌, refl, ap, length, take, set, reverse, arith}
use Rattle.std.proofs.lemmas.List.{length-append, get_or-set_same}
use Rattle.asl_machine.specs.Step.{advanced}
use Rattle.asl_machine.proofs.Frames.{act, nearest_is, same_below, same_activity}
use Rattle.asl_machine.proofs.activity.Activity.call.Goals.{then-self-len+in_ok-push, else-self-len}
use Rattle.asl_machine.proofs.activity.Activity.call.Goals as goal

pub returns-clause-called : goal.returns-clause-called
returns-clause-called c =
    let now = c.if-self-len.self-inside in
    let same : (act now.depth now.top (reverse (take now.below now.frames.items)) now.fresh.items ≡ c.args.self.now) × (now.below < length now.frames.items) =
    elim c.if-self-len.branch [
      | then-self-len+in_ok-push w ↦ rw w.self-inside-is (
        same_activity c.self.inside.depth _ _ _ _ c.self.inside.fresh.items refl (same_below c.self.inside.frames.items _ _ c.self.inside.below c.self.invariant.0 w.in_ok-push.ensures.items)
            ∙ c.self.view_is,
        omega (arith, ap length w.in_ok-push.ensures.items, length-append c.self.inside.frames.items (w.blank.result ∷ []), c.self.invariant.0),
      )
      | else-self-len w ↦ rw w.self-inside-is (c.self.view_is, omega (arith, c.self.invariant.0, w.if-self-len.false, c.len.ensures, c.self.inside.frames.ok.0))
    ] in
    let top = c.swap.ensures.x_after ∙ c.index_mut-2.ensures.value ∙ get_or-set_same now.frames.items now.below c.begin.new.self c.index_mut-2.result.now same.1 ∙ c.in_ok-begin.ensures in
    let below : reverse (take (now.below + 1) (set (set now.frames.items now.below c.begin.new.self) now.below c.swap.new.y)) ≡ advanced now.top ∷ reverse (take now.below now.frames.items) =
    nearest_is now.frames.items now.below c.begin.new.self c.swap.new.y same.1 ∙ ap (λ f. f ∷ reverse (take now.below now.frames.items)) (c.swap.ensures.y_after ∙ c.advance.ensures) in
    rw (← same.0) (same_activity now.depth _ _ _ _ now.fresh.items top below)
