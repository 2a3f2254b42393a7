-- Objects stay, so replies, and threads that have ended, speak of objects that are there in each later state too.
use Rattle.std.proofs.Common.{◌≡◌, ℕ, zero, suc, ◌+◌, ◌==◌, ◌<◌, ◌≤◌, ◌++◌, Bool, true, false, List, [], ◌∷◌, Option, Some, None, Ok, Err, length, slice_get, refl, ap, ap₂, sym, ◌∙◌, subst, inl, inr, arith, ◌⊎◌}
use Rattle.std.specs.Prelude.{if◌then◌else◌, map as each}
use Rattle.std.proofs.lemmas.List.{length-append, map-append}
use Rattle.asl_code.specs.declared.image.Image.{Image}
use Rattle.asl_code.specs.Fits.{FitsImage}
use Rattle.asl_machine.specs.declared.reply.Reply.{Reply}
use Rattle.asl_machine.specs.declared.reply.Reply.TheVariants as reply
use Rattle.asl_machine.specs.State.{Object, Activity, Thread, Running, Done, Failed, State, new_object}
use Rattle.asl_machine.specs.Run.{first_thread, first_threads, start_of}
use Rattle.asl_machine.specs.ComputedRun.{state_after}
use Rattle.asl_machine.specs.StepFunction.{Stepped, left_by, left_at, thread_after, turn_by, step_at, step_of}
use Rattle.asl_machine.specs.WellFormed.{SatisfiesInvariant}
use Rattle.asl_machine.proofs.Lists.{get_either, one_more}
use Rattle.asl_machine.proofs.WellFormedHeaps.{length-written}
use Rattle.asl_machine.proofs.Invariant.{after_same, here_of, instr_here, step_sound}
use Rattle.asl_machine.proofs.Starts.{start_sound}
use Rattle.asl_atomicity.specs.Serial.{heard}
use Rattle.asl_atomicity.specs.Renamed.{reply_by}
use Rattle.asl_atomicity.proofs.Computed.{told}
use Rattle.asl_atomicity.proofs.Uniform.{ObjectsEdit, Same, Stored, Made, put, uniform, place_at}
use Rattle.asl_atomicity.proofs.Swaps.{stepped, same_here, of_turn}
use Rattle.asl_atomicity.proofs.Renamings.{ReplyOf, reply_stays, heard_by}
use Rattle.asl_atomicity.proofs.SpokenObjects.{FateOf, left_of, reply_fate, EndedOf, ended_fate, more_reply, more_ended}

-- ---- objects stay

pub le_self : (n : ℕ) → n ≤ n
le_self n = omega arith

pub le_le : (a b c : ℕ) → a ≤ b → b ≤ c → a ≤ c
le_le a b c p q = omega (arith, p, q)

put_grows : (objects : List Object) (e : ObjectsEdit) → length objects ≤ length (put e objects)
put_grows objects Same = le_self (length objects)
put_grows objects (Stored v (Err w)) = le_self (length objects)
put_grows objects (Stored v (Ok c)) = subst (λ n. length objects ≤ n) (sym (length-written objects c v)) (le_self (length objects))
put_grows objects (Made cells class) = by_room (length objects == 65536)
  where
    by_room : (b : Bool) → length objects ≤ length (if b then objects else objects ++ new_object class cells ∷ [])
    by_room true = le_self (length objects)
    by_room false = subst (λ n. length objects ≤ n) (sym (length-append objects (new_object class cells ∷ []))) (more (length objects))
      where
        more : (n : ℕ) → n ≤ n + 1
        more n = omega arith

-- what becomes of a thread, and of the objects
pub record Steps (image : Image) (s : State) (t : ℕ) : Type 0 where
  pub grows : length s.objects ≤ length (step_of image s t).state.objects
  pub reply : ReplyOf (length s.objects) (step_of image s t).reply
  pub ended : (u : ℕ) (x : Thread) → slice_get (step_of image s t).state.threads u ≡ Some x → (slice_get s.threads u ≡ Some x) ⊎ EndedOf (length s.objects) x

module _ (image : Image) (s : State) (t : ℕ) (sound : SatisfiesInvariant image s) where
  -- a step that leaves the state
  left_alone : (o : Option Thread) → slice_get s.threads t ≡ o → (step_at image s t o).reply ≡ reply.Ended → (step_at image s t o).state ≡ s → Steps image s t
  left_alone o is ended same =
      let state : (step_of image s t).state ≡ s = ap (λ z. (step_at image s t z).state) is ∙ same in
      record {
        grows = subst (λ (z : State). length s.objects ≤ length z.objects) (sym state) (le_self (length s.objects));
        reply = subst (ReplyOf (length s.objects)) (sym (ap (λ z. (step_at image s t z).reply) is ∙ ended)) tt;
        ended = λ u x e. inl (sym (ap (λ (z : State). slice_get z.threads u) state) ∙ e);
      }

  running : (a : Activity) → slice_get s.threads t ≡ Some (Running a) → Steps image s t
  running a is =
      let here = here_of image s t a sound is in
      let at = instr_here image s.objects a here.placed sound.fits in
      let l = left_by image (place_at t a s.objects s.holding) at.0 in
      let of : FateOf (length s.objects) l.fate = left_of image t a s.objects s.holding here.placed at.0 in
      let step : step_of image s t ≡ of_turn s t (turn_by t l) =
      ap (step_at image s t) is ∙ ap (λ o. of_turn s t (turn_by t (left_at image (place_at t a s.objects s.holding) o))) at.1 in
      let edits = uniform image t a at.0 s.objects s.holding in
      record {
        grows = subst (λ (w : Stepped). length s.objects ≤ length w.state.objects) (sym (stepped image s t a at.0 s.objects s.holding edits is at.1 (same_here image t a at.0 s.objects s.holding))) (put_grows s.objects edits.on_objects);
        reply = subst (λ (w : Stepped). ReplyOf (length s.objects) w.reply) (sym step) (reply_fate (length s.objects) l.fate of);
        ended = λ u x e. elim (get_either s.threads t u (thread_after l.fate l.activity) x (sym (ap (λ (w : Stepped). slice_get w.state.threads u) step) ∙ e)) [
          | inl new ↦ inr (subst (EndedOf (length s.objects)) (sym new) (ended_fate (length s.objects) l.fate l.activity of))
          | inr old ↦ inl old
        ];
      }

  pub steps : Steps image s t
  steps = by_thread (slice_get s.threads t) refl
    where
      by_thread : (o : Option Thread) → slice_get s.threads t ≡ o → Steps image s t
      by_thread None is = left_alone None is refl refl
      by_thread (Some (Running a)) is = running a is
      by_thread (Some (Done v)) is = left_alone (Some (Done v)) is refl (after_same s t (Done v) is)
      by_thread (Some (Failed w)) is = left_alone (Some (Failed w)) is refl (after_same s t (Failed w) is)

-- ---- runs

-- all that have ended did so with objects that are there
abbrev pub AllEnded : State → Type 0
AllEnded s = (u : ℕ) (x : Thread) → slice_get s.threads u ≡ Some x → EndedOf (length s.objects) x

pub step_ended : (image : Image) (s : State) (t : ℕ) → SatisfiesInvariant image s → AllEnded s → AllEnded (step_of image s t).state
step_ended image s t sound all u x e =
    let k = steps image s t sound in
    elim (k.ended u x e) [
      | inl old ↦ more_ended (length s.objects) (length (step_of image s t).state.objects) k.grows x (all u x old)
      | inr of ↦ more_ended (length s.objects) (length (step_of image s t).state.objects) k.grows x of
    ]

run_ended : (image : Image) (us : List ℕ) (s : State) → SatisfiesInvariant image s → AllEnded s → AllEnded (state_after image s us)
run_ended image [] s sound all = all
run_ended image (u ∷ us) s sound all = run_ended image us (step_of image s u).state (step_sound image s u sound) (step_ended image s u sound all)

start_ended : (image : Image) (n count u : ℕ) (x : Thread) → slice_get (first_threads image n) u ≡ Some x → EndedOf count x
start_ended image zero count u x e = cc
start_ended image (suc n) count u x e = elim (one_more (first_threads image n) (first_thread image n) x u e) [
  | inl before ↦ start_ended image n count u x before
  | inr last ↦ subst (EndedOf count) (sym last) tt
]

-- in each state of a run
pub reached_ended : (image : Image) (count : ℕ) (us : List ℕ) → FitsImage image → AllEnded (state_after image (start_of image count) us)
reached_ended image count us fits = run_ended image us (start_of image count) (start_sound image count fits) (λ u x e. start_ended image count (length (start_of image count).objects) u x e)

pub run_grows : (image : Image) (us : List ℕ) (s : State) → SatisfiesInvariant image s → length s.objects ≤ length (state_after image s us).objects
run_grows image [] s sound = le_self (length s.objects)
run_grows image (u ∷ us) s sound =
    le_le (length s.objects) (length (step_of image s u).state.objects) (length (state_after image (step_of image s u).state us).objects) (steps image s u sound).grows (run_grows image us (step_of image s u).state (step_sound image s u sound))

-- what a thread is told speaks of objects that are there then
pub told_stays : (image : Image) (f : ℕ → ℕ) (us : List ℕ) (s : State) (x : ℕ) → SatisfiesInvariant image s → ((n : ℕ) → n < length (state_after image s us).objects → f n ≡ n) → each (reply_by f) (told image s x us) ≡ told image s x us
told_stays image f [] s x sound stays = refl
told_stays image f (u ∷ us) s x sound stays =
    let next = (step_of image s u).state in
    let k = steps image s u sound in
    let fewer : length s.objects ≤ length (state_after image next us).objects = run_grows image (u ∷ us) s sound in
    let same : reply_by f (step_of image s u).reply ≡ (step_of image s u).reply = reply_stays f (length (state_after image next us).objects) stays (step_of image s u).reply (more_reply (length s.objects) (length (state_after image next us).objects) fewer (step_of image s u).reply k.reply) in
    map-append (reply_by f) (if u == x then heard (step_of image s u).reply else []) (told image next x us)
    ∙ ap₂ (λ a b. a ++ b) (by_test (u == x) (step_of image s u).reply same) (told_stays image f us next x (step_sound image s u sound) stays)
  where
    by_test : (b : Bool) (r : Reply) → reply_by f r ≡ r → each (reply_by f) (if b then heard r else []) ≡ (if b then heard r else [])
    by_test true r same = heard_by f r ∙ ap heard same
    by_test false r same = refl
