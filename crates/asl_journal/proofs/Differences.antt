-- The first event that differs from the computed run is one, and it is the one that differs by the table. A run that leads somewhere
-- differs nowhere, so only want of memory stops its replay.
use Rattle.std.proofs.Common.{◌≡◌, ◌≢◌, ℕ, zero, suc, inl, inr, ◌<◌, List, [], ◌∷◌, ◌++◌, length, take, drop, Some, Result, Ok, Err, refl, ap, sym, subst, ◌∙◌, arith}
use Rattle.std.specs.Prelude.{IfErr, slice_get}
use Rattle.std.proofs.Math.Seq.{drop-cons}
use Rattle.std.proofs.lemmas.List.{take-append-drop, length-take, get_or-take}
use Rattle.std.proofs.lemmas.Bool.{cases_lt}
use Rattle.std.proofs.lemmas.List.Elements.{All-take}
use Rattle.std.proofs.lemmas.Option.{slice_get-get_or, slice_get_within, get_or_from_slice_get}
use Rattle.asl_code.specs.declared.image.Image.{Image}
use Rattle.asl_code.specs.Verified.{IsVerified}
use Rattle.asl_code.proofs.FitsLaws.{image_fits}
use Rattle.asl_machine.specs.State.{State}
use Rattle.asl_machine.specs.View.{Configuration}
use Rattle.asl_machine.specs.Run.{IsThreadCount, start_of}
use Rattle.asl_machine.specs.ComputedRun.{state_after}
use Rattle.asl_machine.specs.StepFunction.{step_of}
use Rattle.asl_machine.specs.Step.{Step}
use Rattle.asl_machine.proofs.Reached.{reached_sound, reached_count}
use Rattle.asl_machine.proofs.Table.{step_is}
use Rattle.asl_machine.proofs.Unique.{step_only}
use Rattle.asl_journal.specs.declared.event.Event.{Event}
use Rattle.asl_journal.specs.declared.fault.JournalFault.{JournalFault}
use Rattle.asl_journal.specs.declared.fault.JournalFault.TheVariants as faults
use Rattle.asl_journal.specs.Journal.{AreThere, LeadsFrom, IsJournal, schedule_of}
use Rattle.asl_journal.specs.Computed.{GoesBy, state_at}
use Rattle.asl_journal.specs.Replay.{DiffersAt, DiffersFrom, IsFollowFault}
use Rattle.asl_journal.proofs.ByTable.{run_computed, goes_of, leads_of, schedule_reached}
use Rattle.asl_journal.proofs.Runs.{goes_back, goes_head}

-- The first event that differs from the computed run from the state on: those before it are of the run, and to this one the run
-- replies something else.
pub record DiffersBy (image : Image) (s : State) (events : List Event) (index : ℕ) : Type 0 where
  pub event : Event
  pub at : slice_get events index ≡ Some event
  pub before : GoesBy image s (take index events)
  pub differs : event.reply ≢ (step_of image (state_after image s (schedule_of (take index events))) event.thread).reply

-- the first event that differs by the table is the first that differs from the computed run
pub differs_computed : (image : Image) (s : State) (events : List Event) (index : ℕ) → DiffersFrom image s events index → DiffersBy image s events index
differs_computed image s events index d =
    let first = run_computed image s d.state (take index events) d.before in
    let step = subst (λ (u : State). Step image u d.event.thread d.reply d.new) first.1 d.step in
    let only = step_only image (state_after image s (schedule_of (take index events))) d.event.thread d.reply d.new step in
    record {
      event = d.event;
      at = d.at;
      before = first.0;
      differs = λ e. d.differs (e ∙ sym only.0);
    }

-- events of a run differ from it nowhere
pub none_from : (image : Image) (s : State) (events : List Event) (index : ℕ) → GoesBy image s events → DiffersBy image s events index → ⊥
none_from image s events index goes d =
    let split : events ≡ take index events ++ drop index events = sym (take-append-drop index events) in
    let rest : GoesBy image (state_after image s (schedule_of (take index events))) (drop index events) = goes_back image s (take index events) (drop index events) (subst (GoesBy image s) split goes) in
    let lt = slice_get_within events index d.event d.at in
    let front : drop index events ≡ d.event ∷ drop (suc index) events = drop-cons events index d.event lt ∙ ap (λ (e : Event). e ∷ drop (suc index) events) (get_or_from_slice_get events index d.event d.event d.at) in
    d.differs (goes_head image (state_after image s (schedule_of (take index events))) d.event (drop (suc index) events) (subst (GoesBy image (state_after image s (schedule_of (take index events)))) front rest))

-- what stops a replay of events that lead somewhere is lack of memory
pub only_memory : {T : Type 0} (image : Image) (s end : State) (events : List Event) (r : Result T JournalFault) → LeadsFrom image s events end → IfErr r (IsFollowFault image s events)
    → IfErr r (λ fault. fault ≡ faults.OutOfMemory)
only_memory image s end events (Ok t) leads is = tt
only_memory image s end events (Err faults.JournalFull) leads is = absurd is
only_memory image s end events (Err faults.BadCount) leads is = absurd is
only_memory image s end events (Err faults.BadThread) leads is = absurd is
only_memory image s end events (Err (faults.Differs index)) leads is =
    absurd (none_from image s events index (run_computed image s end events leads).0 (differs_computed image s events index is))
only_memory image s end events (Err faults.Magic) leads is = absurd is
only_memory image s end events (Err faults.Version) leads is = absurd is
only_memory image s end events (Err (faults.Truncated at)) leads is = absurd is
only_memory image s end events (Err (faults.BadField at)) leads is = absurd is
only_memory image s end events (Err (faults.Trailing at)) leads is = absurd is
only_memory image s end events (Err faults.OutOfMemory) leads is = refl

-- the same, where the machine is said to be at this state of this program
pub only_memory_at : {T : Type 0} (machine : Configuration) (events : List Event) (image : Image) (s end : State) (others : List Event) (r : Result T JournalFault) → machine.image ≡ image → machine.state ≡ s → events ≡ others
    → LeadsFrom image s others end → IfErr r (IsFollowFault machine.image machine.state events) → IfErr r (λ fault. fault ≡ faults.OutOfMemory)
only_memory_at machine events image s end others r p q e leads is = only_memory machine.image machine.state end events r (rw (p, q, e) leads) is

-- no earlier event differs than the first that does
earlier : (image : Image) (s : State) (events : List Event) (index later : ℕ) → index < later → DiffersBy image s events index → DiffersBy image s events later → ⊥
earlier image s events index later lt d other =
    let within = slice_get_within events later other.event other.at in
    let short : index < length (take later events) = omega (arith, length-take later events) in
    let shorter : take index (take later events) ≡ take index events = take_of_take index later events lt in
    none_from image s (take later events) index other.before (record {
      event = d.event;
      at = slice_get-get_or (take later events) index d.event short ∙ ap (λ (e : Event). Some e) (get_or-take later events index d.event lt ∙ get_or_from_slice_get events index d.event d.event d.at);
      before = subst (GoesBy image s) (sym shorter) d.before;
      differs = subst (λ (es : List Event). d.event.reply ≢ (step_of image (state_after image s (schedule_of es)) d.event.thread).reply) (sym shorter) d.differs;
    })
  where
    take_of_take : (i n : ℕ) (es : List Event) → i < n → take i (take n es) ≡ take i es
    take_of_take zero n es lt = refl
    take_of_take (suc i) zero es lt = absurd (omega arith)
    take_of_take (suc i) (suc n) [] lt = refl
    take_of_take (suc i) (suc n) (e ∷ es) lt = ap (λ (xs : List Event). e ∷ xs) (take_of_take i n es (omega arith))

-- one event is the first that differs
pub one_from : (image : Image) (s : State) (events : List Event) (index other : ℕ) → DiffersBy image s events index → DiffersBy image s events other → index ≡ other
one_from image s events index other d e =
    elim (cases_lt index other) [
      | inl lt ↦ absurd (earlier image s events index other lt d e)
      | inr le ↦ elim (cases_lt other index) [
        | inl lt ↦ absurd (earlier image s events other index lt e d)
        | inr back ↦ omega arith
      ]
    ]

-- ---- journals by the table

-- an event of a thread that is there
event_there : (count : ℕ) (events : List Event) (index : ℕ) (event : Event) → AreThere count events → slice_get events index ≡ Some event → event.thread < count
event_there count events index event there at =
    subst (λ (e : Event). e.thread < count) (get_or_from_slice_get events index event event at) (there index event (slice_get_within events index event at))

-- the first event that differs from the computed run of a journal's threads differs by the table
pub differs_of : (image : Image) (count : ℕ) (events : List Event) (index : ℕ) → IsVerified image → IsThreadCount image count → AreThere count events → DiffersBy image (start_of image count) events index → DiffersAt image count events index
differs_of image count events index v counted there d =
    let first = All-take (λ (e : Event). e.thread < count) index events there in
    let state = state_at image count (take index events) in
    let reached = schedule_reached image count (take index events) v first in
    let sound = reached_sound image count state (image_fits image v) reached in
    let here : d.event.thread < length state.threads = subst (λ (n : ℕ). d.event.thread < n) (sym (reached_count image count state reached)) (event_there count events index d.event there d.at) in
    record {
      verified = v;
      event = d.event;
      at = d.at;
      state = state;
      before = leads_of image count (take index events) v counted first d.before;
      reply = (step_of image state d.event.thread).reply;
      new = (step_of image state d.event.thread).state;
      step = step_is image state d.event.thread sound here;
      differs = d.differs;
    }

-- and the other way round
differs_from : (image : Image) (count : ℕ) (events : List Event) (index : ℕ) → DiffersAt image count events index → DiffersBy image (start_of image count) events index
differs_from image count events index d =
    differs_computed image (start_of image count) events index
    (record { event = d.event; at = d.at; state = d.state; before = d.before.runs; reply = d.reply; new = d.new; step = d.step; differs = d.differs })

-- no event of a journal differs
pub no_difference : (image : Image) (count : ℕ) (events : List Event) (index : ℕ) → IsJournal image count events → DiffersAt image count events index → ⊥
no_difference image count events index j d = none_from image (start_of image count) events index (goes_of image count events j) (differs_from image count events index d)

-- one event is the first that differs
pub one_difference : (image : Image) (count : ℕ) (events : List Event) (index other : ℕ) → DiffersAt image count events index → DiffersAt image count events other → index ≡ other
one_difference image count events index other d e = one_from image (start_of image count) events index other (differs_from image count events index d) (differs_from image count events other e)
