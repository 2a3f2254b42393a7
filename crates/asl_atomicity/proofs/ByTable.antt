-- Runs by the instruction table are the computed ones, so what the proofs say of these holds of those.
use Rattle.std.proofs.Common.{◌≡◌, ◌≢◌, ℕ, ◌<◌, ◌==◌, ◌++◌, List, [], ◌∷◌, Option, Some, None, length, refl, ap, ap₂, sym, ◌∙◌, subst, inl, inr}
use Rattle.std.specs.Prelude.{if◌then◌else◌, All}
use Rattle.std.proofs.lemmas.Bool.{cases_lt}
use Rattle.std.proofs.lemmas.Option.{slice_get_past}
use Rattle.std.proofs.lemmas.List.Elements.{All-nil, All-cons, All-head, All-tail}
use Rattle.asl_code.specs.declared.image.Image.{Image}
use Rattle.asl_code.specs.Fits.{FitsImage}
use Rattle.asl_machine.specs.State.{State}
use Rattle.asl_machine.specs.Run.{IsReached, start_of}
use Rattle.asl_machine.specs.ComputedRun.{state_after}
use Rattle.asl_machine.specs.WellFormed.{SatisfiesInvariant}
use Rattle.asl_machine.specs.StepFunction.{step_of, step_at}
use Rattle.asl_machine.proofs.Reached.{step_count}
use Rattle.asl_machine.proofs.Invariant.{step_sound}
use Rattle.asl_machine.proofs.Starts.{start_sound, length-first_threads}
use Rattle.asl_machine.proofs.Table.{step_is}
use Rattle.asl_machine.proofs.Unique.{step_only}
use Rattle.asl_machine.proofs.Lines.{line_there}
use Rattle.asl_machine.proofs.TableRuns.{reached_state, state_reached}
use Rattle.asl_atomicity.specs.Serial as run
use Rattle.asl_atomicity.specs.Serial.{TakenStep, IsRun, heard, Counts, IsOutside, MakesNoneInside}
use Rattle.asl_atomicity.specs.Renamed as numbered
use Rattle.asl_atomicity.specs.Renamed.{IsRenamed, Keeps}
use Rattle.asl_atomicity.proofs.Computed.{told, outside_of, outside, AllCount, IsSerial, MakesOutside, IsGuarded, FindsRoomInside}
use Rattle.asl_atomicity.proofs.Atomicity.{serial_runs}
use Rattle.asl_atomicity.proofs.UpTo.{serial_runs_up_to}

-- ---- the computed run, as steps

-- the steps of a schedule, computed
abbrev pub taken : Image → State → List ℕ → List TakenStep
taken image s [] = []
taken image s (t ∷ ts) = record { before = s; thread = t; reply = (step_of image s t).reply } ∷ taken image (step_of image s t).state ts

-- the threads that the steps are of
abbrev pub threads_of : List TakenStep → List ℕ
threads_of [] = []
threads_of (step ∷ steps) = step.thread ∷ threads_of steps

-- a step that counts is of a thread that is there
counted_there : (image : Image) (s : State) (t : ℕ) → heard (step_of image s t).reply ≢ [] → t < length s.threads
counted_there image s t c =
    elim (cases_lt t (length s.threads)) [
      | inl lt ↦ lt
      | inr past ↦ absurd (c (ap (λ o. heard (step_at image s t o).reply) (slice_get_past s.threads t past)))
    ]

-- the computed run goes by the table
taken_run : (image : Image) (count : ℕ) (ts : List ℕ) (s : State) → SatisfiesInvariant image s → length s.threads ≡ count → All (λ t. t < count) ts → IsRun image s (taken image s ts) (state_after image s ts)
taken_run image count [] s sound n there = refl
taken_run image count (t ∷ ts) s sound n there = (
  refl,
  (step_of image s t).state,
  step_is image s t sound (subst (λ c. t < c) (sym n) (All-head (λ u. u < count) t ts there)),
  taken_run image count ts (step_of image s t).state (step_sound image s t sound) (step_count image s t ∙ n) (All-tail (λ u. u < count) t ts there),
)

-- so does one in which every step counts
counted_run : (image : Image) (ts : List ℕ) (s : State) → SatisfiesInvariant image s → AllCount image s ts → IsRun image s (taken image s ts) (state_after image s ts)
counted_run image [] s sound c = refl
counted_run image (t ∷ ts) s sound c = (
  refl,
  (step_of image s t).state,
  step_is image s t sound (counted_there image s t c.0),
  counted_run image ts (step_of image s t).state (step_sound image s t sound) c.1,
)

-- a run by the table is the computed one, of threads that are there
record IsTaken (image : Image) (count : ℕ) (s : State) (steps : List TakenStep) (end : State) : Type 0 where
  is : steps ≡ taken image s (threads_of steps)
  leads : end ≡ state_after image s (threads_of steps)
  there : All (λ t. t < count) (threads_of steps)

run_taken : (image : Image) (count : ℕ) (steps : List TakenStep) (s : State) (end : State) → length s.threads ≡ count → IsRun image s steps end → IsTaken image count s steps end
run_taken image count [] s end n e = record { is = refl; leads = e; there = All-nil (λ t. t < count) }
run_taken image count (step ∷ steps) s end n e =
    let only = step_only image s step.thread step.reply e.1 e.2 in
    let rest = run_taken image count steps (step_of image s step.thread).state end (step_count image s step.thread ∙ n) (subst (λ u. IsRun image u steps end) only.1 e.3) in
    record {
      is = ap₂ {C = List TakenStep} (λ x xs. x ∷ xs) (ap₂ (λ b r. record { before = b; thread = step.thread; reply = r }) e.0 only.0) rest.is;
      leads = rest.leads;
      there = All-cons (λ t. t < count) step.thread (threads_of steps) (subst (λ c. step.thread < c) n (line_there image s step.thread step.reply e.1 e.2)) rest.there;
    }

-- ---- what is said of them

told_taken : (image : Image) (x : ℕ) (ts : List ℕ) (s : State) → run.told x (taken image s ts) ≡ told image s x ts
told_taken image x [] s = refl
told_taken image x (t ∷ ts) s = ap (λ z. (if t == x then heard (step_of image s t).reply else []) ++ z) (told_taken image x ts (step_of image s t).state)

outside_taken_is : (image : Image) (ts : List ℕ) (s : State) → run.outside (taken image s ts) ≡ outside image s ts
outside_taken_is image [] s = refl
outside_taken_is image (t ∷ ts) s = ap (λ z. outside_of image s t ++ z) (outside_taken_is image ts (step_of image s t).state)

counts_taken : (image : Image) (ts : List ℕ) (s : State) → AllCount image s ts → All Counts (taken image s ts)
counts_taken image [] s c = All-nil Counts
counts_taken image (t ∷ ts) s c = All-cons Counts (record { before = s; thread = t; reply = (step_of image s t).reply }) (taken image (step_of image s t).state ts) c.0 (counts_taken image ts (step_of image s t).state c.1)

serial_taken : (image : Image) (ts : List ℕ) (s : State) (last : Option ℕ) → IsSerial image s last ts → run.IsSerial last (taken image s ts)
serial_taken image [] s last c = tt
serial_taken image (t ∷ ts) s last c = (c.0, serial_taken image ts (step_of image s t).state (Some t) c.1)

outside_taken : (image : Image) (ts : List ℕ) (s : State) → All (MakesNoneInside image) (taken image s ts) → MakesOutside image s ts
outside_taken image [] s m = tt
outside_taken image (t ∷ ts) s m =
    let first : TakenStep = record { before = s; thread = t; reply = (step_of image s t).reply } in
    let rest = taken image (step_of image s t).state ts in
    (All-head (MakesNoneInside image) first rest m, outside_taken image ts (step_of image s t).state (All-tail (MakesNoneInside image) first rest m))

room_taken : (image : Image) (ts : List ℕ) (s : State) → All numbered.FindsRoomInside (taken image s ts) → FindsRoomInside image s ts
room_taken image [] s m = tt
room_taken image (t ∷ ts) s m =
    let first : TakenStep = record { before = s; thread = t; reply = (step_of image s t).reply } in
    let rest = taken image (step_of image s t).state ts in
    (All-head numbered.FindsRoomInside first rest m, room_taken image ts (step_of image s t).state (All-tail numbered.FindsRoomInside first rest m))

-- ---- what a run leads to is reached

pub end_reached : (image : Image) (count : ℕ) (steps : List TakenStep) (s : State) → FitsImage image → IsRun image (start_of image count) steps s → IsReached image count s
end_reached image count steps s fits e =
    let r = run_taken image count steps (start_of image count) s (length-first_threads image count) e in
    subst (IsReached image count) (sym r.leads) (state_reached image count (threads_of steps) fits r.there)

guards_reached : (image : Image) (count : ℕ) → FitsImage image → run.IsGuarded image count → IsGuarded image count
guards_reached image count fits g s t list a reached at granted =
    g (taken image (start_of image count) reached.schedule) s t list a
    (subst (IsRun image (start_of image count) (taken image (start_of image count) reached.schedule)) (sym (reached_state image count s reached)) (taken_run image count reached.schedule (start_of image count) (start_sound image count fits) (length-first_threads image count) reached.threads_there))
    at granted

-- ---- the theorems

pub runs_serial : (image : Image) (count : ℕ) → FitsImage image → run.IsGuarded image count → run.HasSerialRuns image count
runs_serial image count fits guarded steps end e outside =
    let start = start_of image count in
    let sound = start_sound image count fits in
    let r = run_taken image count steps start end (length-first_threads image count) e in
    let c = serial_runs image count fits (guards_reached image count fits guarded) (threads_of steps) r.there (outside_taken image (threads_of steps) start (subst (All (MakesNoneInside image)) r.is outside)) in
    record {
      serial = taken image start c.serial;
      is_run = subst (IsRun image start (taken image start c.serial)) (sym (r.leads ∙ c.alike.0)) (counted_run image c.serial start sound c.counts);
      counts = counts_taken image c.serial start c.counts;
      is_serial = serial_taken image c.serial start None c.is_serial;
      replies = λ x. told_taken image x c.serial start ∙ sym (c.alike.1 x) ∙ sym (told_taken image x (threads_of steps) start) ∙ ap (run.told x) (sym r.is);
      order = outside_taken_is image c.serial start ∙ c.order ∙ sym (outside_taken_is image (threads_of steps) start) ∙ ap run.outside (sym r.is);
    }

pub runs_serial_up_to : (image : Image) (count : ℕ) → FitsImage image → run.IsGuarded image count → numbered.HasSerialRunsUpTo image count
runs_serial_up_to image count fits guarded steps end e room =
    let start = start_of image count in
    let sound = start_sound image count fits in
    let r = run_taken image count steps start end (length-first_threads image count) e in
    let c = serial_runs_up_to image count fits (guards_reached image count fits guarded) (threads_of steps) r.there (room_taken image (threads_of steps) start (subst (All numbered.FindsRoomInside) r.is room)) in
    record {
      serial = taken image start c.serial;
      serial_end = state_after image start c.serial;
      is_run = counted_run image c.serial start sound c.counts;
      counts = counts_taken image c.serial start c.counts;
      is_serial = serial_taken image c.serial start None c.is_serial;
      renaming = c.renaming;
      keeps = subst (λ (z : State). Keeps c.renaming.new (length image.globals) (length z.objects)) (sym r.leads) c.keeps;
      state = subst (λ z. IsRenamed c.renaming.new z (state_after image start c.serial)) (sym r.leads) c.state;
      replies = λ x. rw (told_taken image x c.serial start, ap (run.told x) r.is ∙ told_taken image x (threads_of steps) start) (c.replies x);
      order = outside_taken_is image c.serial start ∙ c.order ∙ sym (outside_taken_is image (threads_of steps) start) ∙ ap run.outside (sym r.is);
    }
