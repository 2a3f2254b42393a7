-- What holds of every state that a schedule reaches.
use Rattle.std.proofs.Common.{◌≡◌, ◌≢◌, ◌<◌, ℕ, false, Option, Some, None, length, slice_get, refl, ap, ◌∙◌, subst, length-set}
use Rattle.std.specs.Prelude.{IsSome, option_and_then}
use Rattle.std.proofs.lemmas.Bool.{false_from_ne_true}
use Rattle.std.proofs.lemmas.Option.{slice_get_within}
use Rattle.std.specs.Option.{option_map_or}
use Rattle.asl_code.specs.declared.image.Image.{Image}
use Rattle.asl_code.specs.declared.instr.Instr.{Instr}
use Rattle.asl_code.specs.declared.instr.Instr.TheVariants as instr
use Rattle.asl_code.specs.Fits.{FitsImage}
use Rattle.asl_lock_forest.specs.Holding.{Request, CanGrant, can_grant}
use Rattle.asl_machine.specs.declared.reply.Reply.TheVariants as reply
use Rattle.asl_machine.specs.State.{Activity, Thread, Running, Done, Failed, State, activity_of, activity_at, depth_at}
use Rattle.asl_machine.specs.declared.reply.Reply.{Reply}
use Rattle.asl_machine.specs.Run.{IsReached}
use Rattle.asl_machine.specs.Step.{At, Line, StepOf, Step}
use Rattle.asl_machine.specs.StepFunction.{step_at, step_of}
use Rattle.asl_machine.specs.WellFormed.{SatisfiesInvariant}
use Rattle.asl_machine.specs.World.{SomeoneGoesOn}
use Rattle.asl_lock_forest.proofs.Grantable.{can_grant-tells, can_grant-refused}
use Rattle.asl_lock_forest.proofs.Lawful.{way_holds}
use Rattle.asl_machine.proofs.Starts.{start_sound, length-first_threads}
use Rattle.asl_machine.proofs.ValueLines.{at_of}
use Rattle.asl_machine.proofs.Table.{step_is}
use Rattle.asl_machine.proofs.Lines.{of_line, line_sound, reached_keeps}
use Rattle.asl_lock_forest.proofs.Laws.{held_nothing}

-- a step makes no thread and drops none
pub step_count : (image : Image) (s : State) (t : ℕ) → length (step_of image s t).state.threads ≡ length s.threads
step_count image s t =
    elim (slice_get s.threads t) as (λ o. length (step_at image s t o).state.threads ≡ length s.threads) [
      | None ↦ refl
      | Some thread ↦ length-set s.threads t _
    ]

-- so it is with each line of the table
pub line_count : (image : Image) (s : State) (t : ℕ) (r : Reply) (new : State) → Step image s t r new → length new.threads ≡ length s.threads
line_count image s t r new h = of_line image s t (λ q u. length u.threads ≡ length s.threads) (step_count image s t) r new h

-- every reached state is sound
pub reached_sound : (image : Image) (count : ℕ) (s : State) → FitsImage image → IsReached image count s → SatisfiesInvariant image s
reached_sound image count s fits r = reached_keeps image count (SatisfiesInvariant image) (start_sound image count fits) (line_sound image) s r

-- a reached state has as many threads as the start
pub reached_count : (image : Image) (count : ℕ) (s : State) → IsReached image count s → length s.threads ≡ count
reached_count image count s r =
    reached_keeps image count (λ u. length u.threads ≡ count) (length-first_threads image count) (λ u t q new n h. line_count image u t q new h ∙ n) s r

-- ---- no world is blocked

-- a line that blocks is an `acq` outside all sections, with a request that cannot be granted
line_blocked : (at : At) (i : Instr) (n : State) → Line at i reply.Blocked n → (at.activity.depth ≡ 0) × ((request : Request) × (¬ CanGrant at.state.holding at.thread request))
line_blocked at (instr.Acquire list) n h = (h.asks.outside, (h.request, h.taken))
line_blocked at i n h = absurd h

-- how many sections a thread is in
abbrev depth_of_thread : Thread → ℕ
depth_of_thread thread = option_map_or (λ (a : Activity). a.depth) (activity_of thread) 0

-- a blocked thread runs, outside all sections, and what it asks cannot be granted
blocked_at : (image : Image) (s : State) (t : ℕ) (thread : Thread) (n : State) → StepOf image s t (Some thread) reply.Blocked n →
    (depth_of_thread thread ≡ 0) × ((request : Request) × (¬ CanGrant s.holding t request))
blocked_at image s t (Running a) n h = line_blocked (at_of image s t a) h.0 n h.2
blocked_at image s t (Done v) n h = let e = h.0 in cc
blocked_at image s t (Failed f) n h = let e = h.0 in cc

blocked : (image : Image) (s : State) (t : ℕ) → SatisfiesInvariant image s → (step_of image s t).reply ≡ reply.Blocked →
    (depth_at s.threads t ≡ 0) × ((request : Request) × (¬ CanGrant s.holding t request))
blocked image s t sound e =
    elim (slice_get s.threads t) as (λ o. slice_get s.threads t ≡ o → (step_at image s t o).reply ≡ reply.Blocked →
    (depth_at s.threads t ≡ 0) × ((request : Request) × (¬ CanGrant s.holding t request))) [
      | None ↦ λ is b. cc
      | Some thread ↦ λ is b.
          let lt = slice_get_within s.threads t thread is in
          let h = step_is image s t sound lt in
          let k : StepOf image s t (Some thread) (step_of image s t).reply (step_of image s t).state = subst (λ o. StepOf image s t o (step_of image s t).reply (step_of image s t).state) is h in
          let r = blocked_at image s t thread (step_of image s t).state (subst (λ x. StepOf image s t (Some thread) x (step_of image s t).state) e k) in
          (ap (λ o. option_map_or (λ (a : Activity). a.depth) (option_and_then activity_of o) 0) is ∙ r.0, r.1)
    ] refl e

is_running : (o : Option Activity) → option_map_or (λ (a : Activity). a.depth) o 0 ≢ 0 → IsSome o
is_running None h = absurd (h refl)
is_running (Some a) h = refl

-- a thread that runs is there
running_is_there : (s : State) (t : ℕ) → IsSome (activity_at s.threads t) → t < length s.threads
running_is_there s t runs =
    elim (slice_get s.threads t) as (λ o. slice_get s.threads t ≡ o → IsSome (option_and_then activity_of o) → t < length s.threads) [
      | None ↦ λ is some. cc
      | Some thread ↦ λ is some. slice_get_within s.threads t thread is
    ] refl runs

-- where a step is blocked, some running thread holds a node and is not blocked
pub someone_goes_on : (image : Image) (s : State) (t : ℕ) → SatisfiesInvariant image s → (step_of image s t).reply ≡ reply.Blocked → SomeoneGoesOn image s
someone_goes_on image s t sound e =
    let b = blocked image s t sound e in
    let request = b.1.0 in
    let refused : can_grant s.holding t request ≡ false = false_from_ne_true _ (λ free. b.1.1 (can_grant-tells s.holding t request free)) in
    let way = can_grant-refused s.holding t request refused in
    let holds = way_holds s.holding t request way.0 way.1 way.2 in
    let inside : depth_at s.threads way.0 ≢ 0 = λ z. holds (held_nothing s.holding way.0 way.1 (sound.outside way.0 z)) in
    let runs = is_running (activity_at s.threads way.0) inside in
    record {
      thread = way.0;
      runs = runs;
      node = way.1;
      holds = holds;
      reply = (step_of image s way.0).reply;
      new = (step_of image s way.0).state;
      steps = step_is image s way.0 sound (running_is_there s way.0 runs);
      goes_on = λ k. inside (blocked image s way.0 sound k).0;
    }
