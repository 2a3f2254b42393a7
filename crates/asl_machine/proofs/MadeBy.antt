-- What the machine keeps as fresh is what the thread has made in its section, by the run. So the fresh objects of a state can be read
-- from the events alone.
use Rattle.std.proofs.Common.{◌≡◌, ℕ, ◌<◌, ◌⊎◌, List, [], ◌∷◌, Some, None, slice_get, refl, ap, sym, ◌∙◌, subst, inl, inr, arith}
use Rattle.std.specs.Prelude.{Option, option_and_then, IsTrue}
use Rattle.std.proofs.lemmas.Bool.{cases_lt}
use Rattle.std.proofs.lemmas.Option.{slice_get_within, same_Some}
use Rattle.asl_code.specs.declared.image.Image.{Image}
use Rattle.asl_code.specs.declared.instr.Instr.TheVariants as instr
use Rattle.asl_code.specs.Fits.{FitsImage}
use Rattle.asl_code.specs.Versions.{has_fresh}
use Rattle.asl_machine.specs.declared.reply.Reply.{Reply}
use Rattle.asl_machine.specs.Cover.{is_fresh}
use Rattle.asl_machine.specs.State.{Activity, Thread, Running, Done, Failed, State, activity_of, activity_at, depth_at}
use Rattle.asl_machine.specs.Fresh.{fresh_at, IsFreshFor, AreApart}
use Rattle.asl_machine.specs.MadeBy.{MakesInside, StaysInside, HasMadeInside}
use Rattle.asl_machine.specs.Run.{start_of, RunsBy}
use Rattle.asl_machine.specs.Step.{StepOf, Step}
use Rattle.asl_machine.specs.WellFormed.{SatisfiesInvariant}
use Rattle.asl_machine.proofs.Invariant.{step_sound}
use Rattle.asl_machine.proofs.Starts.{start_sound}
use Rattle.asl_machine.proofs.Unique.{step_only}
use Rattle.asl_machine.proofs.Freshness.{no_fresh}
use Rattle.asl_machine.proofs.LineKinds.{StepKind, Over, Does, step_kind}
use Rattle.asl_machine.proofs.Apart.{step_apart}
use Rattle.asl_machine.proofs.ReachedApart.{start_apart, start_fresh}
use Rattle.asl_machine.proofs.FreshLeft.{kind_left, fresh_in, depth_in, fresh_was, fresh_still, fresh_made}

same_activity : (o : Option Activity) (a b : Activity) → o ≡ Some a → o ≡ Some b → a ≡ b
same_activity o a b e f = cc

pub step_fresh_was : (image : Image) (s : State) (u : ℕ) (r : Reply) (new : State) → Step image s u r new → (t o : ℕ) → IsFreshFor new t o → IsFreshFor s t o ⊎ ((u ≡ t) × MakesInside image s t o)
step_fresh_was image s u r new step t o f = by_kind (step_kind image s u r new step)
  where
    by_kind : StepKind image s u r new → IsFreshFor s t o ⊎ ((u ≡ t) × MakesInside image s t o)
    by_kind (Over e) = inl (sym (ap (λ (x : State). is_fresh (fresh_at x.threads t) o) e) ∙ f)
    by_kind (Does a i is here kind) = fresh_was image s u a (slice_get_within s.threads u (Running a) is) (ap (option_and_then activity_of) is) new (kind_left image s u a i r new here kind) t o f

pub step_fresh_still : (image : Image) (s : State) (u : ℕ) (r : Reply) (new : State) → Step image s u r new → (t o : ℕ) → 0 < depth_at new.threads t → IsFreshFor s t o → IsFreshFor new t o
step_fresh_still image s u r new step t o inside f = by_kind (step_kind image s u r new step)
  where
    by_kind : StepKind image s u r new → IsFreshFor new t o
    by_kind (Over e) = ap (λ (x : State). is_fresh (fresh_at x.threads t) o) e ∙ f
    by_kind (Does a i is here kind) = fresh_still image s u a (slice_get_within s.threads u (Running a) is) (ap (option_and_then activity_of) is) new (kind_left image s u a i r new here kind) t o inside f

step_fresh_made : (image : Image) (s : State) (t : ℕ) (r : Reply) (new : State) (o : ℕ) → IsTrue (has_fresh image.version) → Step image s t r new → MakesInside image s t o → 0 < depth_at new.threads t → IsFreshFor new t o
step_fresh_made image s t r new o has step m inside =
    elim (slice_get s.threads t) as (λ x. slice_get s.threads t ≡ x → StepOf image s t x r new → IsFreshFor new t o) [
      | None ↦ λ is h. absurd h
      | Some thread ↦ λ is h. by_thread thread is h
    ] refl step
  where
    by_thread : (thread : Thread) → slice_get s.threads t ≡ Some thread → StepOf image s t (Some thread) r new → IsFreshFor new t o
    by_thread (Running a) is h =
        let at : activity_at s.threads t ≡ Some a = ap (option_and_then activity_of) is in
        let same : m.activity ≡ a = same_activity (activity_at s.threads t) m.activity a m.runs at in
        let instr : h.0 ≡ instr.New m.to m.cells m.class = same_Some _ _ (sym h.1 ∙ ap (λ (b : Activity). slice_get image.code b.top.pc) (sym same) ∙ m.at_new) in
        let deep : 0 < a.depth = subst (λ (b : Activity). 0 < b.depth) same m.inside in
        subst (IsFreshFor new t) (sym m.next) (fresh_made image s t a (slice_get_within s.threads t (Running a) is) at h.0 r new has m.to m.cells m.class instr deep h.2 inside)
    by_thread (Done v) is h = let none = sym m.runs ∙ ap (option_and_then activity_of) is in cc
    by_thread (Failed v) is h = let none = sym m.runs ∙ ap (option_and_then activity_of) is in cc

-- ---- runs

stays_now : (image : Image) (s : State) (us : List ℕ) (end : State) (t : ℕ) → StaysInside image s us end t → 0 < depth_at s.threads t
stays_now image s [] end t h = h.0
stays_now image s (u ∷ us) end t h = h.0

stays_fresh : (image : Image) (s : State) (us : List ℕ) (end : State) (t o : ℕ) → StaysInside image s us end t → IsFreshFor s t o → IsFreshFor end t o
stays_fresh image s [] end t o h f = ap (λ (x : State). is_fresh (fresh_at x.threads t) o) h.1 ∙ f
stays_fresh image s (u ∷ us) end t o (low, (r, new, step, rest)) f =
    stays_fresh image new us end t o rest (step_fresh_still image s u r new step t o (stays_now image new us end t rest) f)

-- what the thread has made in its section is fresh
pub made_is_fresh : (image : Image) (s : State) (us : List ℕ) (end : State) (t o : ℕ) → IsTrue (has_fresh image.version) → HasMadeInside image s us end t o → IsFreshFor end t o
made_is_fresh image s [] end t o has h = absurd h
made_is_fresh image s (u ∷ us) end t o has (r, new, step, inl (same, makes, stays)) =
    let own : Step image s t r new = subst (λ v. Step image s v r new) same step in
    stays_fresh image new us end t o stays (step_fresh_made image s t r new o has own makes (stays_now image new us end t stays))
made_is_fresh image s (u ∷ us) end t o has (r, new, step, inr later) = made_is_fresh image new us end t o has later

-- a thread for which an object is fresh is in a section
fresh_inside : (image : Image) (s : State) (t o : ℕ) → AreApart image s → IsFreshFor s t o → 0 < depth_at s.threads t
fresh_inside image s t o apart f =
    elim (activity_at s.threads t) as (λ x. activity_at s.threads t ≡ x → IsTrue (fresh_in x o) → 0 < depth_in x) [
      | None ↦ λ is g. absurd (no_fresh [] o refl g)
      | Some a ↦ λ is g. elim (cases_lt 0 a.depth) [ inl deep ↦ deep | inr low ↦ absurd (no_fresh a.fresh o (apart.outside t a is (omega (arith, low))) g) ]
    ] refl f

sound_after : (image : Image) (s : State) (u : ℕ) (r : Reply) (new : State) → SatisfiesInvariant image s → Step image s u r new → SatisfiesInvariant image new
sound_after image s u r new sound step = subst (SatisfiesInvariant image) (sym (step_only image s u r new step).1) (step_sound image s u sound)

-- what is fresh at the end of a run the thread has made in its section, or it was fresh at its start, and the thread has been in
-- a section since
fresh_by_run : (image : Image) (s : State) (us : List ℕ) (rs : List Reply) (end : State) (t o : ℕ) → SatisfiesInvariant image s → AreApart image s → RunsBy image s us rs end → IsFreshFor end t o
    → HasMadeInside image s us end t o ⊎ (IsFreshFor s t o × StaysInside image s us end t)
fresh_by_run image s [] [] end t o sound apart e f =
    let here : IsFreshFor s t o = sym (ap (λ (x : State). is_fresh (fresh_at x.threads t) o) e) ∙ f in
    inr (here, (fresh_inside image s t o apart here, e))
fresh_by_run image s [] (r ∷ rs) end t o sound apart e f = absurd e
fresh_by_run image s (u ∷ us) [] end t o sound apart e f = absurd e
fresh_by_run image s (u ∷ us) (r ∷ rs) end t o sound apart (new, step, rest) f =
    elim (fresh_by_run image new us rs end t o (sound_after image s u r new sound step) (step_apart image s u r new sound apart step) rest f) [
      | inl later ↦ inl (r, new, step, inr later)
      | inr old ↦ elim (step_fresh_was image s u r new step t o old.0) [
        | inl before ↦ inr (before, (fresh_inside image s t o apart before, (r, new, step, old.1)))
        | inr makes ↦ inl (r, new, step, inl (makes.0, makes.1, old.1))
      ]
    ]

run_apart : (image : Image) (s : State) (us : List ℕ) (rs : List Reply) (end : State) → SatisfiesInvariant image s → AreApart image s → RunsBy image s us rs end → AreApart image end
run_apart image s [] [] end sound apart e = subst (AreApart image) (sym e) apart
run_apart image s [] (r ∷ rs) end sound apart e = absurd e
run_apart image s (u ∷ us) [] end sound apart e = absurd e
run_apart image s (u ∷ us) (r ∷ rs) end sound apart (new, step, rest) =
    run_apart image new us rs end (sound_after image s u r new sound step) (step_apart image s u r new sound apart step) rest

-- what is fresh at the end of a run from the start the thread has made in its section
pub fresh_was_made : (image : Image) (count : ℕ) (us : List ℕ) (rs : List Reply) (end : State) (t o : ℕ) → FitsImage image → RunsBy image (start_of image count) us rs end → IsFreshFor end t o
    → IsTrue (has_fresh image.version) × HasMadeInside image (start_of image count) us end t o
fresh_was_made image count us rs end t o fits runs f =
    let sound = start_sound image count fits in
    let apart = start_apart image count in (
      (run_apart image (start_of image count) us rs end sound apart runs).version t o f,
      elim (fresh_by_run image (start_of image count) us rs end t o sound apart runs f) [
        | inl made ↦ made
        | inr old ↦ absurd (start_fresh image count t o old.0)
      ],
    )
