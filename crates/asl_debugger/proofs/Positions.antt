-- Positions of a journal, and runs between them.
use Rattle.std.proofs.Common.{◌≡◌, ℕ, zero, suc, ◌+◌, ◌-◌, ◌<◌, ◌≤◌, List, [], ◌∷◌, ◌++◌, length, take, drop, get_or, Some, refl, ap, sym, subst, ◌∙◌, arith}
use Rattle.std.proofs.lemmas.List.{take_more, take-append-drop, drop-take, length-take, length-drop, get_or-drop, get_or-take}
use Rattle.std.proofs.lemmas.List.Elements.{All-get_or}
use Rattle.std.proofs.lemmas.Option.{slice_get-get_or, slice_get_within, get_or_from_slice_get}
use Rattle.asl_code.specs.declared.image.Image.{Image}
use Rattle.asl_machine.specs.WellFormed.{MayWantMemory}
use Rattle.asl_machine.specs.State.{State}
use Rattle.asl_machine.specs.View.{Configuration}
use Rattle.asl_machine.specs.Paused.{Rest}
use Rattle.asl_machine.specs.Run.{start_of}
use Rattle.asl_machine.specs.ComputedRun.{state_after}
use Rattle.asl_machine.specs.declared.reply.Reply.{Reply}
use Rattle.asl_machine.specs.Step.{Step}
use Rattle.asl_machine.specs.StepFunction.{step_of}
use Rattle.asl_machine.proofs.Starts.{length-first_threads}
use Rattle.asl_machine.proofs.Runs.{count_after}
use Rattle.asl_machine.proofs.Unique.{step_only}
use Rattle.asl_journal.specs.declared.event.Event.{Event}
use Rattle.asl_journal.specs.Journal.{Log, IsLog, IsJournal, schedule_of}
use Rattle.asl_journal.specs.Computed.{GoesBy}
use Rattle.asl_journal.proofs.ByTable.{goes_of}
use Rattle.asl_journal.proofs.Differences.{DiffersBy}
use Rattle.asl_journal.proofs.Runs.{state_events, state_snoc, goes_append, goes_back, prefix_is_journal}
use Rattle.asl_debugger.specs.Halts.{MayWantMemoryBefore}
use Rattle.asl_debugger.specs.Computed.{state_before, machine_before}
use Rattle.asl_debugger.specs.declared.trail.Mark.{Mark}
use Rattle.asl_debugger.specs.Checkpoints.{IsDebuggerState, AreMarks}

-- a state of a run has the threads of its start
pub count_at : (image : Image) (log : Log) (k : ℕ) → length (state_before image log k).threads ≡ log.threads
count_at image log k = count_after image (schedule_of (take k log.events)) (start_of image log.threads) ∙ length-first_threads image log.threads

pub take_of_take : (i n : ℕ) (es : List Event) → i ≤ n → take i (take n es) ≡ take i es
take_of_take zero n es le = refl
take_of_take (suc i) zero es le = absurd (omega arith)
take_of_take (suc i) (suc n) [] le = refl
take_of_take (suc i) (suc n) (e ∷ es) le = ap (λ (xs : List Event). e ∷ xs) (take_of_take i n es (omega arith))

-- the events up to a later position are those up to this one, and those between
pub events_between : (events : List Event) (start end : ℕ) → start ≤ end → take end events ≡ take start events ++ take (end - start) (drop start events)
events_between events start end le =
    let sum : start + (end - start) ≡ end = omega arith in
    let back : drop start (take end events) ≡ take (end - start) (drop start events) = ap (λ (n : ℕ). drop start (take n events)) (sym sum) ∙ drop-take start (end - start) events in
    sym (take-append-drop start (take end events)) ∙ ap (λ (xs : List Event). xs ++ drop start (take end events)) (take_of_take start end events le) ∙ ap (λ (xs : List Event). take start events ++ xs) back

module _ (image : Image) (log : Log) (start end : ℕ) (le : start ≤ end) where
  -- the state at the later position
  pub state_between : state_after image (state_before image log start) (schedule_of (take (end - start) (drop start log.events))) ≡ state_before image log end
  state_between =
      sym (state_events image (start_of image log.threads) (take start log.events) (take (end - start) (drop start log.events)))
      ∙ ap (λ (es : List Event). state_after image (start_of image log.threads) (schedule_of es)) (sym (events_between log.events start end le))

  -- events that continue as the run does
  pub goes_between : GoesBy image (start_of image log.threads) (take start log.events) → GoesBy image (state_before image log start) (take (end - start) (drop start log.events)) → GoesBy image (start_of image log.threads) (take end log.events)
  goes_between front back =
      subst (GoesBy image (start_of image log.threads)) (sym (events_between log.events start end le))
      (goes_append image (start_of image log.threads) (take start log.events) (take (end - start) (drop start log.events)) front back)

  -- the events between are of the run from the earlier position on
  pub goes_from : IsJournal image log.threads log.events → GoesBy image (state_before image log start) (take (end - start) (drop start log.events))
  goes_from j =
      goes_back image (start_of image log.threads) (take start log.events) (take (end - start) (drop start log.events))
      (subst (GoesBy image (start_of image log.threads)) (events_between log.events start end le) (goes_of image log.threads (take end log.events) (prefix_is_journal image log.threads end log.events j)))

  -- the first event that differs, between, is the first that differs
  pub differs_between : (index : ℕ) → GoesBy image (start_of image log.threads) (take start log.events) → DiffersBy image (state_before image log start) (take (end - start) (drop start log.events)) index
      → DiffersBy image (start_of image log.threads) log.events (start + index)
  differs_between index front d =
      let count = end - start in
      let slice = take count (drop start log.events) in
      let e = d.event in
      let inside = slice_get_within slice index e d.at in
      let few : index < count = omega (arith, inside, length-take count (drop start log.events)) in
      let within : start + index < length log.events = omega (arith, inside, length-take count (drop start log.events), length-drop start log.events) in
      let same : get_or log.events (start + index) e ≡ e = sym (get_or-drop start log.events index e) ∙ sym (get_or-take count (drop start log.events) index e few) ∙ get_or_from_slice_get slice index e e d.at in
      let back : start + index - start ≡ index = omega arith in
      let behind : take index slice ≡ take index (drop start log.events) = take_of_take index count (drop start log.events) (omega arith) in
      let parts : take (start + index) log.events ≡ take start log.events ++ take index slice =
      events_between log.events start (start + index) (omega arith) ∙ ap (λ (n : ℕ). take start log.events ++ take n (drop start log.events)) back ∙ ap (λ (es : List Event). take start log.events ++ es) (sym behind) in
      let s0 = start_of image log.threads in
      let state : state_after image s0 (schedule_of (take (start + index) log.events)) ≡ state_after image (state_before image log start) (schedule_of (take index slice)) =
      ap (λ (es : List Event). state_after image s0 (schedule_of es)) parts ∙ state_events image s0 (take start log.events) (take index slice) in
      record {
        event = e;
        at = slice_get-get_or log.events (start + index) e within ∙ ap (λ (x : Event). Some x) same;
        before = subst (GoesBy image s0) (sym parts) (goes_append image s0 (take start log.events) (take index slice) front d.before);
        differs = λ h. d.differs (h ∙ ap (λ (u : State). (step_of image u e.thread).reply) state);
      }

-- a machine is its program in its state
pub is_at : (machine : Configuration) (image : Image) (s : State) → machine.image ≡ image → machine.state ≡ s → machine ≡ record { image = image; state = s }
is_at machine image s p q = rw (← p, ← q) refl

-- the machine after the event at a position is the one at the next
pub made : (log : Log) (machine new : Configuration) (position : ℕ) (d : Event) (t : ℕ) (reply : Reply) → position < length log.events → machine.state ≡ state_before machine.image log position → t ≡ (get_or log.events position d).thread
    → new.image ≡ machine.image → Step machine.image machine.state t reply new.state → new ≡ machine_before machine.image log (position + 1)
made log machine new position d t reply lt at thread image step =
    let more : take (position + 1) log.events ≡ take position log.events ++ get_or log.events position d ∷ [] = take_more log.events position d lt in
    let s0 = start_of machine.image log.threads in
    let here : (step_of machine.image machine.state t).state ≡ (step_of machine.image (state_before machine.image log position) (get_or log.events position d).thread).state =
    ap (λ (s : State). (step_of machine.image s t).state) at ∙ ap (λ (u : ℕ). (step_of machine.image (state_before machine.image log position) u).state) thread in
    let next : state_before machine.image log (position + 1) ≡ (step_of machine.image (state_before machine.image log position) (get_or log.events position d).thread).state =
    ap (λ (es : List Event). state_after machine.image s0 (schedule_of es)) more ∙ state_snoc machine.image s0 (take position log.events) (get_or log.events position d) in
    is_at new machine.image (state_before machine.image log (position + 1)) image ((step_only machine.image machine.state t reply new.state step).1 ∙ here ∙ sym next)

-- the threads of events are those of the machine at a position
pub thread_there : (image : Image) (log : Log) (k : ℕ) (machine : Configuration) → machine ≡ machine_before image log k → IsLog log → (i : ℕ) (d : Event) → i < length log.events → (get_or log.events i d).thread < length machine.state.threads
thread_there image log k machine at is i d lt =
    let count : length machine.state.threads ≡ log.threads = ap (λ (m : Configuration). length m.state.threads) at ∙ count_at image log k in
    rw count (All-get_or (λ (e : Event). e.thread < log.threads) log.events i d lt is.there)

pub threads_of : (image : Image) (log : Log) (k : ℕ) (s : State) → s ≡ state_before image log k → length s.threads ≡ log.threads
threads_of image log k s at = ap (λ (u : State). length u.threads) at ∙ count_at image log k

-- the thread of the event at a position is there in the state there, and where its step may need memory, so may the
-- event's
module _ (machine : Configuration) (log : Log) (k : ℕ) (d : Event) (t : ℕ) (lt : k < length log.events) (at : machine.state ≡ state_before machine.image log k) where
  pub there_at : IsLog log → t ≡ (get_or log.events k d).thread → t < length machine.state.threads
  there_at is thread = rw (thread, threads_of machine.image log k machine.state at) (All-get_or (λ (e : Event). e.thread < log.threads) log.events k d lt is.there)

  pub wants_at : t ≡ (get_or log.events k d).thread → MayWantMemory machine.image machine.state t → MayWantMemoryBefore machine.image log k
  wants_at thread wants = rw (slice_get-get_or log.events k d lt, ← thread, ← at) wants

-- a debugger that shows another position of its journal keeps what it keeps, or other marks
pub kept_at : (log : Log) (spacing : ℕ) (checkpoints : List Rest) (marks others : List Mark) (old new : Configuration) (position k : ℕ) → IsDebuggerState old.image log spacing checkpoints marks old position → AreMarks old.image log others → k ≤ length log.events →
    new ≡ machine_before old.image log k → IsDebuggerState new.image log spacing checkpoints others new k
kept_at log spacing checkpoints marks others old new position k kept marked within shown = subst (λ (m : Configuration). IsDebuggerState m.image log spacing checkpoints others m k) (sym shown) (record {
  is_log = kept.is_log;
  journal = kept.journal;
  spaced = kept.spaced;
  shown = refl;
  within = within;
  each = kept.each;
  enough = kept.enough;
  none_past = kept.none_past;
  marked = marked;
})
