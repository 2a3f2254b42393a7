-- The steps outside sections, in their order: a step inside one that goes before others changes nothing of it.
use Rattle.std.proofs.Common.{◌≡◌, ℕ, ◌<◌, ◌++◌, Bool, true, false, List, [], ◌∷◌, Some, slice_get, refl, ap, ap₂, sym, ◌∙◌, inl, inr, arith}
use Rattle.std.specs.Prelude.{if◌then◌else◌, map as each}
use Rattle.std.proofs.lemmas.Bool.Decides.{eqb_tells}
use Rattle.std.proofs.lemmas.List.{append_assoc, append-nil}
use Rattle.asl_code.specs.declared.image.Image.{Image}
use Rattle.asl_machine.specs.declared.reply.Reply.{Reply}
use Rattle.asl_machine.specs.declared.reply.Reply.TheVariants as reply
use Rattle.asl_machine.specs.State.{Running, Activity, State, depth_at}
use Rattle.asl_machine.specs.ComputedRun.{state_after}
use Rattle.asl_machine.specs.StepFunction.{step_of}
use Rattle.asl_atomicity.specs.Serial.{heard, is_outside, IsInside}
use Rattle.asl_atomicity.specs.Renamed.{reply_by}
use Rattle.asl_atomicity.proofs.Computed.{outside_of, outside, AllCount}
use Rattle.asl_atomicity.proofs.Swapping.{AreOthers, Stands, CanSwap}
use Rattle.asl_atomicity.proofs.Moves.{others_stay, step_stands, inside_stays, slot_depth}

pub outside_parts : (image : Image) (a b : List ℕ) (s : State) → outside image s (a ++ b) ≡ outside image s a ++ outside image (state_after image s a) b
outside_parts image [] b s = refl
outside_parts image (t ∷ a) b s =
    ap (λ z. outside_of image s t ++ z) (outside_parts image a b (step_of image s t).state) ∙ sym (append_assoc (outside_of image s t) _ _)

-- a step that does not count is none of them
no_reply : (b : Bool) (t : ℕ) (rs : List Reply) → rs ≡ [] → (if b then each (λ r. t) rs else []) ≡ []
no_reply true t rs e = ap (each (λ r. t)) e
no_reply false t rs e = refl

pub quiet_outside : (image : Image) (s : State) (t : ℕ) → heard (step_of image s t).reply ≡ [] → outside_of image s t ≡ []
quiet_outside image s t e = no_reply (is_outside (depth_at s.threads t)) t (heard (step_of image s t).reply) e

-- nor is one inside a section
no_depth : (d : ℕ) (xs : List ℕ) → 0 < d → (if is_outside d then xs else []) ≡ []
no_depth d xs inside = elim (eqb_tells d 0) [
  | inl zero ↦ absurd (let z = zero.1 in omega (arith, z, inside))
  | inr other ↦ ap (λ b. if b then xs else []) other.0
]

pub inside_outside : (image : Image) (s : State) (t : ℕ) (a : Activity) → slice_get s.threads t ≡ Some (Running a) → 0 < a.depth → outside_of image s t ≡ []
inside_outside image s t a runs inside =
    ap (λ d. if is_outside d then each (λ r. t) (heard (step_of image s t).reply) else []) (ap slot_depth runs) ∙ no_depth a.depth (each (λ r. t) (heard (step_of image s t).reply)) inside

-- one more at the end
pub outside_more : (image : Image) (us : List ℕ) (t : ℕ) (s : State) → outside image s (us ++ t ∷ []) ≡ outside image s us ++ outside_of image (state_after image s us) t
outside_more image us t s = outside_parts image us (t ∷ []) s ∙ ap (λ z. outside image s us ++ z) (append-nil (outside_of image (state_after image s us) t))

pub none_more : (image : Image) (us : List ℕ) (t : ℕ) (s : State) → outside_of image (state_after image s us) t ≡ [] → outside image s (us ++ t ∷ []) ≡ outside image s us
none_more image us t s e = outside_more image us t s ∙ ap (λ z. outside image s us ++ z) e ∙ append-nil (outside image s us)

-- what is outside depends on the thread's depth and on whether its step counts
pub same_outside : (t d e : ℕ) (r q : Reply) → d ≡ e → r ≡ q → (if is_outside d then each (λ z. t) (heard r) else []) ≡ (if is_outside e then each (λ z. t) (heard q) else [])
same_outside t d e r q depth same = ap₂ (λ n z. if is_outside n then each (λ y. t) (heard z) else []) depth same

-- the others' steps outside stay so after a step inside a section
pub moved_outside : (image : Image) (count : ℕ) → CanSwap image count →
    (t : ℕ) (us : List ℕ) (s : State) → Stands image count s → IsInside image s t → AreOthers t us → AllCount image s us → outside image (step_of image s t).state us ≡ outside image s us
moved_outside image count swap t [] s good i others counts = refl
moved_outside image count swap t (u ∷ us) s good i others counts =
    let k = swap s u t good others.0 counts.0 i in
    let rest = moved_outside image count swap t us (step_of image s u).state (step_stands image count s u good) (inside_stays image s u t others.0 i) others.1 counts.1 in
    ap₂ (λ x xs. x ++ xs)
    (same_outside u (depth_at (step_of image s t).state.threads u) (depth_at s.threads u) (step_of image (step_of image s t).state u).reply (step_of image s u).reply (ap slot_depth (others_stay image s t u others.0)) (sym k.1))
    (ap (λ z. outside image z us) (sym k.2) ∙ rest)

-- a step counts with other numbers where it counts
counts_by : (f : ℕ → ℕ) (t : ℕ) (r : Reply) → each (λ z. t) (heard (reply_by f r)) ≡ each (λ z. t) (heard r)
counts_by f t reply.Ran = refl
counts_by f t reply.Blocked = refl
counts_by f t reply.Ended = refl
counts_by f t (reply.Out v) = refl
counts_by f t (reply.Fault w) = refl

-- so what is outside is that with other numbers
pub outside_by : (f : ℕ → ℕ) (t d e : ℕ) (r q : Reply) → d ≡ e → r ≡ reply_by f q → (if is_outside d then each (λ z. t) (heard r) else []) ≡ (if is_outside e then each (λ z. t) (heard q) else [])
outside_by f t d e r q depth same = same_outside t d e r (reply_by f q) depth same ∙ ap (λ xs. if is_outside e then xs else []) (counts_by f t q)
