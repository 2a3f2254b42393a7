-- What a step leaves of the fresh objects of its thread, and of the others: the thread keeps them, has none any more, or has made
-- one more.
use Rattle.std.proofs.Common.{◌≡◌, ◌≢◌, ℕ, ◌<◌, ◌⊎◌, Bool, List, [], Some, length, set, slice_get, refl, ap, sym, ◌∙◌, inl, inr, arith}
use Rattle.std.specs.Prelude.{Option, option_and_then, IsTrue}
use Rattle.std.specs.Option.{option_map_or}
use Rattle.std.proofs.lemmas.Bool.{cases_lt}
use Rattle.std.proofs.lemmas.Bool.Decides.{eqb_tells}
use Rattle.asl_code.specs.declared.image.Image.{Image}
use Rattle.asl_code.specs.declared.instr.Instr.{Instr}
use Rattle.asl_code.specs.declared.instr.Instr.TheVariants as instr
use Rattle.asl_code.specs.Versions.{has_fresh}
use Rattle.asl_lock_forest.specs.Holding.{Holding}
use Rattle.asl_machine.specs.declared.fault.Fault.TheVariants as fault
use Rattle.asl_machine.specs.declared.reply.Reply.{Reply}
use Rattle.asl_machine.specs.declared.reply.Reply.TheVariants as reply
use Rattle.asl_machine.specs.Cover.{is_fresh}
use Rattle.asl_machine.specs.State.{Object, Activity, Thread, Running, Done, Failed, State, activity_of, activity_at, depth_at}
use Rattle.asl_machine.specs.Fresh.{fresh_of, fresh_at, IsFreshFor}
use Rattle.asl_machine.specs.MadeBy.{MakesInside}
use Rattle.asl_machine.specs.Step.{Line, after, made_fresh, having_made}
use Rattle.asl_machine.proofs.Lists.{get_same, get_other}
use Rattle.asl_machine.proofs.Following.{depth_in as thread_depth}
use Rattle.asl_machine.proofs.ValueLines.{at_of}
use Rattle.asl_machine.proofs.LineKinds.{Kind, Setting, Going, Storing, Making, Calling, Returning, Ending, Entering, Waiting, Leaving, Failing}
use Rattle.asl_machine.proofs.Freshness.{no_fresh, made_either, made_keeps, made_new, made_outside}

-- what a step leaves of a running thread: it runs on with the same fresh objects; or it has none, and is in no section; or it
-- has made an object; or nothing has changed
pub data Left (image : Image) (s : State) (u : ℕ) (a : Activity) (new : State) : Type 0 where
  RunsOn : (b : Activity) (objects : List Object) (holding : Holding) → new ≡ after s u (Running b) objects holding → b.fresh ≡ a.fresh → Left image s u a new
  HasNone : (thread : Thread) (objects : List Object) (holding : Holding) → new ≡ after s u thread objects holding → fresh_of thread ≡ [] → thread_depth thread ≡ 0 → Left image s u a new
  Makes : (to cells class : ℕ) (objects : List Object) (holding : Holding) → new ≡ after s u (Running (having_made image.version a to (length s.objects))) objects holding →
      slice_get image.code a.top.pc ≡ Some (instr.New to cells class) → Left image s u a new
  Nothing : new ≡ s → Left image s u a new

-- each kind of line leaves one of these
pub kind_left : (image : Image) (s : State) (u : ℕ) (a : Activity) (i : Instr) (r : Reply) (new : State) → slice_get image.code a.top.pc ≡ Some i → Kind (at_of image s u a) i r new → Left image s u a new
kind_left image s u a i r new here (Setting to v comes e) = RunsOn _ s.objects s.holding e refl
kind_left image s u a i r new here (Going depth target deep e) = RunsOn _ s.objects s.holding e refl
kind_left image s u a i r new here (Storing address from same ran e) = RunsOn _ _ s.holding e.goes_on refl
kind_left image s u a i r new here (Making to cells class same ran e) = Makes to cells class _ s.holding e.makes (here ∙ ap (λ z. Some z) same)
kind_left image s u a i r new here (Calling to first g e) = RunsOn _ s.objects s.holding e.calls refl
kind_left image s u a i r new here (Returning from e) = RunsOn _ s.objects s.holding e.returns refl
kind_left image s u a i r new here (Ending from e) = HasNone (Done e.value) s.objects s.holding e.ends refl refl
kind_left image s u a i r new here (Entering list same ran e) = RunsOn _ s.objects _ e.goes_on refl
kind_left image s u a i r new here (Waiting list e) = Nothing e.same
kind_left image s u a i r new here (Leaving same ran e) = HasNone _ s.objects _ e.leaves refl refl
kind_left image s u a i r new here (Failing f same e) = HasNone (Failed f) s.objects _ e refl refl

-- ---- the threads after a step

-- another thread's activity, and its own, in the new state
other_at : (threads : List Thread) (u t : ℕ) (thread : Thread) → t ≢ u → activity_at (set threads u thread) t ≡ activity_at threads t
other_at threads u t thread apart = ap (option_and_then activity_of) (get_other threads u t thread apart)

own_at : (threads : List Thread) (u : ℕ) (thread : Thread) → u < length threads → activity_at (set threads u thread) u ≡ activity_of thread
own_at threads u thread there = ap (option_and_then activity_of) (get_same threads u thread there)

abbrev pub fresh_in : Option Activity → ℕ → Bool
fresh_in o object = is_fresh (option_map_or (λ (a : Activity). a.fresh) o []) object

abbrev pub depth_in : Option Activity → ℕ
depth_in o = option_map_or (λ (a : Activity). a.depth) o 0

module _ (image : Image) (s : State) (u : ℕ) (a : Activity) (there : u < length s.threads) (is : activity_at s.threads u ≡ Some a) where
  own : (new : State) (thread : Thread) (objects : List Object) (holding : Holding) → new ≡ after s u thread objects holding → activity_at new.threads u ≡ activity_of thread
  own new thread objects holding e = ap (λ (x : State). activity_at x.threads u) e ∙ own_at s.threads u thread there

  other : (new : State) (thread : Thread) (objects : List Object) (holding : Holding) → new ≡ after s u thread objects holding → (t : ℕ) → t ≢ u → activity_at new.threads t ≡ activity_at s.threads t
  other new thread objects holding e t apart = ap (λ (x : State). activity_at x.threads t) e ∙ other_at s.threads u t thread apart

  -- what is fresh after a step was so before, or the thread has made it
  pub fresh_was : (new : State) → Left image s u a new → (t o : ℕ) → IsFreshFor new t o → IsFreshFor s t o ⊎ ((u ≡ t) × MakesInside image s t o)
  fresh_was new (RunsOn b objects holding e same) t o f = elim (eqb_tells t u) [
    | inl this ↦ inl (rw this.1 (ap (λ x. fresh_in x o) is ∙ sym (ap (λ xs. is_fresh xs o) same) ∙ sym (ap (λ x. fresh_in x o) (own new (Running b) objects holding e)) ∙ ap (λ w. is_fresh (fresh_at new.threads w) o) (sym this.1) ∙ f))
    | inr away ↦ inl (sym (ap (λ x. fresh_in x o) (other new (Running b) objects holding e t away.1)) ∙ f)
  ]
  fresh_was new (HasNone thread objects holding e none z) t o f = elim (eqb_tells t u) [
    | inl this ↦ absurd (no_fresh (fresh_of thread) o none (sym (ap (λ x. fresh_in x o) (own new thread objects holding e)) ∙ ap (λ w. is_fresh (fresh_at new.threads w) o) (sym this.1) ∙ f))
    | inr away ↦ inl (sym (ap (λ x. fresh_in x o) (other new thread objects holding e t away.1)) ∙ f)
  ]
  fresh_was new (Makes to cells class objects holding e here) t o f =
      let b = having_made image.version a to (length s.objects) in
      elim (eqb_tells t u) [
        | inl this ↦
            let now : IsTrue (is_fresh (made_fresh image.version a.depth (length s.objects) a.fresh) o) =
            sym (ap (λ x. fresh_in x o) (own new (Running b) objects holding e)) ∙ ap (λ w. is_fresh (fresh_at new.threads w) o) (sym this.1) ∙ f in
            elim (made_either image.version a.depth (length s.objects) a.fresh o now) [
              | inl old ↦ inl (rw this.1 (ap (λ x. fresh_in x o) is ∙ old))
              | inr made ↦ elim (cases_lt 0 a.depth) [
                | inl inside ↦ inr (sym this.1, record { activity = a; to = to; cells = cells; class = class; runs = ap (activity_at s.threads) this.1 ∙ is; inside = inside; at_new = here; next = made.0 })
                | inr low ↦ inl (rw this.1 (ap (λ x. fresh_in x o) is ∙ sym (ap (λ xs. is_fresh xs o) (made_outside image.version a.depth (length s.objects) a.fresh (omega (arith, low)))) ∙ now))
              ]
            ]
        | inr away ↦ inl (sym (ap (λ x. fresh_in x o) (other new (Running b) objects holding e t away.1)) ∙ f)
      ]
  fresh_was new (Nothing e) t o f = inl (sym (ap (λ (x : State). is_fresh (fresh_at x.threads t) o) e) ∙ f)

  -- what was fresh is so after a step after which the thread is in a section
  pub fresh_still : (new : State) → Left image s u a new → (t o : ℕ) → 0 < depth_at new.threads t → IsFreshFor s t o → IsFreshFor new t o
  fresh_still new (RunsOn b objects holding e same) t o inside f = elim (eqb_tells t u) [
    | inl this ↦ rw this.1 (ap (λ x. fresh_in x o) (own new (Running b) objects holding e) ∙ ap (λ xs. is_fresh xs o) same ∙ sym (ap (λ x. fresh_in x o) is) ∙ ap (λ w. is_fresh (fresh_at s.threads w) o) (sym this.1) ∙ f)
    | inr away ↦ ap (λ x. fresh_in x o) (other new (Running b) objects holding e t away.1) ∙ f
  ]
  fresh_still new (HasNone thread objects holding e none z) t o inside f = elim (eqb_tells t u) [
    | inl this ↦ absurd (let low : depth_at new.threads t ≡ 0 = ap (depth_at new.threads) this.1 ∙ ap depth_in (own new thread objects holding e) ∙ z in omega (arith, inside, low))
    | inr away ↦ ap (λ x. fresh_in x o) (other new thread objects holding e t away.1) ∙ f
  ]
  fresh_still new (Makes to cells class objects holding e here) t o inside f =
      let b = having_made image.version a to (length s.objects) in
      elim (eqb_tells t u) [
        | inl this ↦
            let old : IsTrue (is_fresh a.fresh o) = sym (ap (λ x. fresh_in x o) is) ∙ ap (λ w. is_fresh (fresh_at s.threads w) o) (sym this.1) ∙ f in
            rw this.1 (ap (λ x. fresh_in x o) (own new (Running b) objects holding e) ∙ made_keeps image.version a.depth (length s.objects) a.fresh o old)
        | inr away ↦ ap (λ x. fresh_in x o) (other new (Running b) objects holding e t away.1) ∙ f
      ]
  fresh_still new (Nothing e) t o inside f = ap (λ (x : State). is_fresh (fresh_at x.threads t) o) e ∙ f

  -- what the thread makes inside a section is fresh for it, if it is in one still
  pub fresh_made : (i : Instr) (r : Reply) (new : State) → IsTrue (has_fresh image.version) → (to cells class : ℕ) → i ≡ instr.New to cells class → 0 < a.depth
      → Line (record { image = image; state = s; thread = u; activity = a }) i r new → 0 < depth_at new.threads u → IsFreshFor new u (length s.objects)
  fresh_made (instr.New x n class) reply.Ran new has to cells k same deep e inside =
      ap (λ y. fresh_in y (length s.objects)) (own new (Running (having_made image.version a x (length s.objects))) _ s.holding e.makes)
      ∙ made_new image.version a.depth (length s.objects) a.fresh has deep
  fresh_made (instr.New x n class) (reply.Fault fault.Full) new has to cells k same deep e inside =
      absurd (let low : depth_at new.threads u ≡ 0 = ap depth_in (own new (Failed fault.Full) s.objects _ e.1) in omega (arith, inside, low))
  fresh_made (instr.New x n class) r new has to cells k same deep e inside = absurd e
  fresh_made i r new has to cells k same deep e inside = absurd cc
