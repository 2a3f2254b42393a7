-- A step inside a section moves before other threads' steps.
use Rattle.std.proofs.Common.{◌≡◌, ◌≢◌, ℕ, ◌==◌, ◌⊎◌, ◌++◌, List, [], ◌∷◌, Option, Some, None, slice_get, refl, ap, sym, ◌∙◌, subst, inl, inr}
use Rattle.std.specs.Prelude.{if◌then◌else◌, option_and_then}
use Rattle.std.specs.Option.{option_map_or}
use Rattle.std.proofs.lemmas.Bool.Decides.{eqb_tells}
use Rattle.asl_code.specs.declared.image.Image.{Image}
use Rattle.asl_machine.specs.declared.reply.Reply.{Reply}
use Rattle.asl_machine.specs.State.{Thread, Activity, State, activity_of, depth_at}
use Rattle.asl_machine.specs.Run.{start_of}
use Rattle.asl_machine.specs.ComputedRun.{state_after}
use Rattle.asl_machine.specs.StepFunction.{step_of, step_at}
use Rattle.asl_machine.proofs.Lists.{get_other}
use Rattle.asl_machine.proofs.Invariant.{step_sound}
use Rattle.asl_atomicity.specs.Serial.{heard, IsInside}
use Rattle.asl_atomicity.proofs.Computed.{told, AllCount, IsSerial, AreAlike}
use Rattle.asl_atomicity.proofs.Swapping.{AreOthers, Stands, CanSwap}

-- a step of one thread leaves the others where they are
pub others_stay : (image : Image) (s : State) (u t : ℕ) → t ≢ u → slice_get (step_of image s u).state.threads t ≡ slice_get s.threads t
others_stay image s u t apart =
    elim (slice_get s.threads u) as (λ o. slice_get (step_at image s u o).state.threads t ≡ slice_get s.threads t) [
      | None ↦ refl
      | Some thread ↦ get_other s.threads u t _ apart
    ]

pub state_parts : (image : Image) (a b : List ℕ) (s : State) → state_after image s (a ++ b) ≡ state_after image (state_after image s a) b
state_parts image [] b s = refl
state_parts image (t ∷ a) b s = state_parts image a b (step_of image s t).state

pub step_stands : (image : Image) (count : ℕ) (s : State) (t : ℕ) → Stands image count s → Stands image count (step_of image s t).state
step_stands image count s t k = (step_sound image s t k.0, (k.1.0 ++ t ∷ [], ap (λ z. (step_of image z t).state) k.1.1 ∙ sym (state_parts image k.1.0 (t ∷ []) (start_of image count))))

pub inside_stays : (image : Image) (s : State) (u t : ℕ) → u ≢ t → IsInside image s t → IsInside image (step_of image s u).state t
inside_stays image s u t apart i = record {
  activity = i.activity;
  runs = others_stay image s u t (λ e. apart (sym e)) ∙ i.runs;
  inside = i.inside;
  makes_none = i.makes_none;
}

-- what one thread is told comes in the order of its own steps alone
pub two_told : (u t x : ℕ) → u ≢ t → (ru rt rest : List Reply) →
    (if u == x then ru else []) ++ ((if t == x then rt else []) ++ rest) ≡ (if t == x then rt else []) ++ ((if u == x then ru else []) ++ rest)
two_told u t x apart ru rt rest =
    elim (eqb_tells u x) [
      | inl same ↦ elim (eqb_tells t x) [
        | inl also ↦ absurd (apart (same.1 ∙ sym also.1))
        | inr other ↦ ap (λ b. (if u == x then ru else []) ++ ((if b then rt else []) ++ rest)) other.0 ∙ sym (ap (λ b. (if b then rt else []) ++ ((if u == x then ru else []) ++ rest)) other.0)
      ]
      | inr other ↦ ap (λ b. (if b then ru else []) ++ ((if t == x then rt else []) ++ rest)) other.0 ∙ sym (ap (λ b. (if t == x then rt else []) ++ ((if b then ru else []) ++ rest)) other.0)
    ]

-- after the others' steps or before them: one state, and each thread is told the same
pub moves : (image : Image) (count : ℕ) → CanSwap image count →
    (t : ℕ) (us : List ℕ) (s : State) → Stands image count s → IsInside image s t → AreOthers t us → AllCount image s us → AreAlike image s (us ++ t ∷ []) (t ∷ us)
moves image count swap t [] s good i others counts = (refl, λ x. refl)
moves image count swap t (u ∷ us) s good i others counts =
    let next = step_of image s u in
    let rest = moves image count swap t us next.state (step_stands image count s u good) (inside_stays image s u t others.0 i) others.1 counts.1 in
    let k = swap s u t good others.0 counts.0 i in
    let first = step_of image s t in
    let one = step_of image next.state t in
    let other = step_of image first.state u in (
      rest.0 ∙ ap (λ z. state_after image z us) k.2,
      λ x.
          let a = ap (λ z. (if u == x then heard next.reply else []) ++ z) (rest.1 x) in
          let b = two_told u t x others.0 (heard next.reply) (heard one.reply) (told image one.state x us) in
          let c = ap (λ z. (if t == x then heard z else []) ++ ((if u == x then heard next.reply else []) ++ told image one.state x us)) k.0 in
          let d = ap (λ z. (if t == x then heard first.reply else []) ++ ((if u == x then heard z else []) ++ told image one.state x us)) k.1 in
          let e = ap (λ z. (if t == x then heard first.reply else []) ++ ((if u == x then heard other.reply else []) ++ told image z x us)) k.2 in
          a ∙ b ∙ c ∙ d ∙ e,
    )

-- what follows still counts
pub moved_counts : (image : Image) (count : ℕ) → CanSwap image count →
    (t : ℕ) (us : List ℕ) (s : State) → Stands image count s → IsInside image s t → AreOthers t us → AllCount image s us → AllCount image (step_of image s t).state us
moved_counts image count swap t [] s good i others counts = tt
moved_counts image count swap t (u ∷ us) s good i others counts =
    let k = swap s u t good others.0 counts.0 i in
    let rest = moved_counts image count swap t us (step_of image s u).state (step_stands image count s u good) (inside_stays image s u t others.0 i) others.1 counts.1 in
    (subst (λ r. heard r ≢ []) k.1 counts.0, subst (λ z. AllCount image z us) k.2 rest)

-- the depth of what stands at a thread's number
abbrev pub slot_depth : Option Thread → ℕ
slot_depth o = option_map_or (λ (a : Activity). a.depth) (option_and_then activity_of o) 0

-- and what follows is as serial as before
pub moved_serial : (image : Image) (count : ℕ) → CanSwap image count →
    (t : ℕ) (before : Option ℕ) (us : List ℕ) (s : State) → Stands image count s → IsInside image s t → AreOthers t us → AllCount image s us → IsSerial image s before us → IsSerial image (step_of image s t).state before us
moved_serial image count swap t before [] s good i others counts serial = tt
moved_serial image count swap t before (u ∷ us) s good i others counts serial =
    let k = swap s u t good others.0 counts.0 i in
    let rest = moved_serial image count swap t (Some u) us (step_of image s u).state (step_stands image count s u good) (inside_stays image s u t others.0 i) others.1 counts.1 serial.1 in
    let first : (depth_at (step_of image s t).state.threads u ≡ 0) ⊎ (before ≡ Some u) = elim serial.0 [
      | inl outside ↦ inl (ap slot_depth (others_stay image s t u others.0) ∙ outside)
      | inr same ↦ inr same
    ] in
    (first, subst (λ z. IsSerial image z (Some u) us) k.2 rest)
