-- A serial schedule, made step by step: a step inside a section goes after the last of its thread.
use Rattle.std.proofs.Common.{◌≡◌, ◌≢◌, ℕ, zero, suc, ◌<◌, ◌==◌, ◌⊎◌, ◌++◌, List, [], ◌∷◌, Some, None, length, slice_get, refl, ap, ap₂, sym, ◌∙◌, subst, inl, inr}
use Rattle.std.specs.Prelude.{All}
use Rattle.std.proofs.lemmas.List.{append_assoc, append-nil}
use Rattle.std.proofs.lemmas.List.Elements.{All-head, All-tail}
use Rattle.asl_code.specs.declared.image.Image.{Image}
use Rattle.asl_code.specs.Fits.{FitsImage}
use Rattle.asl_machine.specs.State.{Thread, Running, State, depth_at}
use Rattle.asl_machine.specs.Run.{first_thread, first_threads, start_of}
use Rattle.asl_machine.specs.ComputedRun.{state_after}
use Rattle.asl_machine.specs.StepFunction.{step_of}
use Rattle.asl_machine.proofs.Lists.{one_more}
use Rattle.asl_machine.proofs.Starts.{start_sound}
use Rattle.asl_machine.proofs.StepLeaves.{no_depth}
use Rattle.asl_atomicity.specs.Serial.{heard, IsInside}
use Rattle.asl_atomicity.proofs.Computed.{told, AllCount, IsSerial, AreAlike, MakesOutside, HasSerial, outside_of, outside}
use Rattle.asl_atomicity.proofs.Swapping.{Stands, CanSwap}
use Rattle.asl_atomicity.proofs.Outside.{outside_parts, quiet_outside, inside_outside, outside_more, none_more, moved_outside}
use Rattle.asl_atomicity.proofs.Moves.{state_parts, moves, moved_counts, moved_serial, slot_depth}
use Rattle.asl_atomicity.proofs.RunParts.{told_parts, counts_split, counts_join, last_of, last_end, serial_split, serial_join, run_stands, run_length, stays, LastAt, find_last, moved_reply, unheard, tell_heard, quiet}

-- ---- the start

start_depth : (image : Image) (n t : ℕ) (thread : Thread) → slice_get (first_threads image n) t ≡ Some thread → slot_depth (Some thread) ≡ 0
start_depth image zero t thread e = cc
start_depth image (suc n) t thread e = elim (one_more (first_threads image n) (first_thread image n) thread t e) [
  | inl before ↦ start_depth image n t thread before
  | inr last ↦ ap (λ z. slot_depth (Some z)) last
]

-- ---- one step more
module _ (image : Image) (count : ℕ) (swap : CanSwap image count) (s : State) (sound : Stands image count s) where
  record From (done : List ℕ) : Type 0 where
    serial : List ℕ
    counts : AllCount image s serial
    is_serial : IsSerial image s None serial
    alike : AreAlike image s done serial
    order : outside image s serial ≡ outside image s done

  -- a step at the end of both
  both_end : (done other : List ℕ) (t : ℕ) → AreAlike image s done other → AreAlike image s (done ++ t ∷ []) (other ++ t ∷ [])
  both_end done other t a = (
    state_parts image done (t ∷ []) s ∙ ap (λ z. (step_of image z t).state) a.0 ∙ sym (state_parts image other (t ∷ []) s),
    λ x.
        told_parts image done (t ∷ []) s x
        ∙ ap (λ z. z ++ told image (state_after image s done) x (t ∷ [])) (a.1 x)
        ∙ ap (λ z. told image s x other ++ told image z x (t ∷ [])) a.0
        ∙ sym (told_parts image other (t ∷ []) s x),
  )

  -- alike after one front
  after_front : (front a b : List ℕ) → AreAlike image (state_after image s front) a b → AreAlike image s (front ++ a) (front ++ b)
  after_front front a b k = (
    state_parts image front a s ∙ k.0 ∙ sym (state_parts image front b s),
    λ x. told_parts image front a s x ∙ ap (λ z. told image s x front ++ z) (k.1 x) ∙ sym (told_parts image front b s x),
  )

  -- a step that does not count is left out
  dropped : (done : List ℕ) (t : ℕ) → From done → t < length s.threads → heard (step_of image (state_after image s done) t).reply ≡ [] → From (done ++ t ∷ [])
  dropped done t f there e = record {
    serial = f.serial;
    counts = f.counts;
    is_serial = f.is_serial;
    alike =
        let here : t < length (state_after image s done).threads = subst (λ n. t < n) (sym (run_length image done s)) there in
        let same = unheard image (state_after image s done) t (run_stands image count done s sound).0 here e in (
          state_parts image done (t ∷ []) s ∙ same ∙ f.alike.0,
          λ x.
              told_parts image done (t ∷ []) s x
              ∙ ap (λ z. told image s x done ++ z) (nothing x e)
              ∙ append-nil (told image s x done)
              ∙ f.alike.1 x,
        );
    order = f.order ∙ sym (none_more image done t s (quiet_outside image (state_after image s done) t e));
  }
    where
      nothing : (x : ℕ) → heard (step_of image (state_after image s done) t).reply ≡ [] → told image (state_after image s done) x (t ∷ []) ≡ []
      nothing x e = quiet (t == x) (heard (step_of image (state_after image s done) t).reply) e

  -- a step outside sections goes to the end
  appended : (done : List ℕ) (t : ℕ) → From done → heard (step_of image (state_after image s done) t).reply ≢ [] → depth_at (state_after image s done).threads t ≡ 0 → From (done ++ t ∷ [])
  appended done t f c outside = record {
    serial = f.serial ++ t ∷ [];
    counts = counts_join image f.serial (t ∷ []) s f.counts (subst (λ z. heard (step_of image z t).reply ≢ []) f.alike.0 c, tt);
    is_serial = serial_join image f.serial (t ∷ []) s None f.is_serial (inl (subst (λ z. depth_at z.threads t ≡ 0) f.alike.0 outside), tt);
    alike = both_end done f.serial t f.alike;
    order = outside_more image f.serial t s ∙ ap₂ (λ us z. us ++ outside_of image z t) f.order (sym f.alike.0) ∙ sym (outside_more image done t s);
  }

  -- a step inside a section goes after the last of its thread
  inserted : (done : List ℕ) (t : ℕ) (f : From done) → heard (step_of image (state_after image s done) t).reply ≢ [] → IsInside image (state_after image s done) t → LastAt t f.serial → From (done ++ t ∷ [])
  inserted done t f c inside at =
      let front = at.front ++ t ∷ [] in
      let p = state_after image s front in
      let p_sound = run_stands image count front s sound in
      let counts = counts_split image front at.back s (subst (AllCount image s) at.is f.counts) in
      let serial = serial_split image front at.back s None (subst (IsSerial image s None) at.is f.is_serial) in
      let goal_state : state_after image s done ≡ state_after image p at.back = f.alike.0 ∙ ap (state_after image s) at.is ∙ state_parts image front at.back s in
      let i_end : IsInside image (state_after image p at.back) t = subst (λ z. IsInside image z t) goal_state inside in
      let i : IsInside image p t = record { activity = i_end.activity; runs = sym (stays image t at.back p at.others) ∙ i_end.runs; inside = i_end.inside; makes_none = i_end.makes_none } in
      let same_reply = moved_reply image count swap t at.back p p_sound i at.others counts.1 in
      let c_end : heard (step_of image (state_after image p at.back) t).reply ≢ [] = subst (λ z. heard (step_of image z t).reply ≢ []) goal_state c in
      record {
        serial = front ++ t ∷ at.back;
        counts = counts_join image front (t ∷ at.back) s counts.0 (subst (λ r. heard r ≢ []) same_reply c_end, moved_counts image count swap t at.back p p_sound i at.others counts.1);
        is_serial = serial_join image front (t ∷ at.back) s None serial.0 (
          inr (last_end None at.front t),
          subst (λ b. IsSerial image (step_of image p t).state b at.back) (last_end None at.front t) (moved_serial image count swap t (last_of None front) at.back p p_sound i at.others counts.1 serial.1),
        );
        alike =
            let one = both_end done f.serial t f.alike in
            let two : f.serial ++ t ∷ [] ≡ front ++ (at.back ++ t ∷ []) = ap (λ z. z ++ t ∷ []) at.is ∙ append_assoc front at.back (t ∷ []) in
            let three = after_front front (at.back ++ t ∷ []) (t ∷ at.back) (moves image count swap t at.back p p_sound i at.others counts.1) in
            (one.0 ∙ ap (state_after image s) two ∙ three.0, λ x. one.1 x ∙ ap (told image s x) two ∙ three.1 x);
        order =
            outside_parts image front (t ∷ at.back) s
            ∙ ap (λ us. outside image s front ++ (us ++ outside image (step_of image p t).state at.back)) (inside_outside image p t i.activity i.runs i.inside)
            ∙ ap (λ us. outside image s front ++ us) (moved_outside image count swap t at.back p p_sound i at.others counts.1)
            ∙ sym (outside_parts image front at.back s)
            ∙ ap (outside image s) (sym at.is)
            ∙ f.order
            ∙ sym (none_more image done t s (inside_outside image (state_after image s done) t inside.activity inside.runs inside.inside));
      }

  one_step : (done : List ℕ) (t : ℕ) → ((u : ℕ) → depth_at s.threads u ≡ 0) → t < length s.threads → From done
      → (depth_at (state_after image s done).threads t ≡ 0) ⊎ IsInside image (state_after image s done) t → From (done ++ t ∷ [])
  one_step done t fresh there f place = elim (tell_heard (step_of image (state_after image s done) t).reply) [
    | inl e ↦ dropped done t f there e
    | inr c ↦ elim place [
      | inl outside ↦ appended done t f c outside
      | inr inside ↦ elim (find_last t f.serial) [
        | inl at ↦ inserted done t f c inside at
        | inr none ↦
            let is : slice_get s.threads t ≡ Some (Running inside.activity) = sym (stays image t f.serial s none) ∙ ap (λ (z : State). slice_get z.threads t) (sym f.alike.0) ∙ inside.runs in
            let zero_depth : inside.activity.depth ≡ 0 = sym (ap slot_depth is) ∙ fresh t in
            let positive = inside.inside in absurd (no_depth inside.activity.depth zero_depth positive)
      ]
    ]
  ]

  all_steps : (rest done : List ℕ) → ((u : ℕ) → depth_at s.threads u ≡ 0) → All (λ t. t < length s.threads) rest → MakesOutside image (state_after image s done) rest → From done → From (done ++ rest)
  all_steps [] done fresh there m f = subst From (sym (append-nil done)) f
  all_steps (t ∷ rest) done fresh there m f =
      subst From (append_assoc done (t ∷ []) rest)
      (all_steps rest (done ++ t ∷ []) fresh (All-tail (λ t. t < length s.threads) t rest there) (subst (λ z. MakesOutside image z rest) (sym (state_parts image done (t ∷ []) s)) m.1) (one_step done t fresh (All-head (λ t. t < length s.threads) t rest there) f m.0))

pub start_outside : (image : Image) (n u : ℕ) → depth_at (start_of image n).threads u ≡ 0
start_outside image n u =
    elim (slice_get (first_threads image n) u) as (λ o. slice_get (first_threads image n) u ≡ o → slot_depth o ≡ 0) [
      | None ↦ λ e. refl
      | Some thread ↦ λ e. start_depth image n u thread e
    ] refl

-- the theorem
pub has_serial : (image : Image) (count : ℕ) (schedule : List ℕ) → FitsImage image → CanSwap image count → All (λ t. t < length (start_of image count).threads) schedule → MakesOutside image (start_of image count) schedule → HasSerial image count schedule
has_serial image count schedule fits swap there m =
    let s = start_of image count in
    let sound : Stands image count s = (start_sound image count fits, ([], refl)) in
    let f = all_steps image count swap s sound schedule [] (start_outside image count) there m (record { serial = []; counts = tt; is_serial = tt; alike = (refl, λ x. refl); order = refl }) in
    record { serial = f.serial; counts = f.counts; is_serial = f.is_serial; alike = f.alike; order = f.order }
