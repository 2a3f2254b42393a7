-- A debugger's journal with one event more, and cut.
use Rattle.std.proofs.Common.{◌≡◌, ℕ, zero, suc, ◌+◌, ◌*◌, ◌/◌, ◌<◌, ◌≤◌, inl, inr, List, [], ◌∷◌, ◌++◌, length, take, Some, refl, ap, sym, subst, ◌∙◌, arith, mul-le-mul_right}
use Rattle.std.specs.Prelude.{slice_get, All, Contains}
use Rattle.std.proofs.lemmas.Bool.{cases_lt}
use Rattle.std.proofs.lemmas.List.{take_all, take-take, take-append-le, length-take-le, length_push}
use Rattle.std.proofs.lemmas.List.Elements.{All-push, All-take, All-weaker, All-contains, All-contains_itself}
use Rattle.std.proofs.lemmas.Option.{slice_get_within}
use Rattle.asl_code.specs.declared.image.Image.{Image}
use Rattle.asl_machine.specs.declared.reply.Reply.{Reply}
use Rattle.asl_machine.specs.State.{State}
use Rattle.asl_machine.specs.View.{Configuration}
use Rattle.asl_machine.specs.Paused.{Rest, IsRestOf}
use Rattle.asl_machine.specs.Run.{start_of}
use Rattle.asl_machine.specs.ComputedRun.{state_after}
use Rattle.asl_machine.specs.Step.{Step}
use Rattle.asl_machine.specs.StepFunction.{step_of}
use Rattle.asl_machine.proofs.Unique.{step_only}
use Rattle.asl_journal.specs.declared.event.Event.{Event}
use Rattle.asl_journal.specs.Journal.{Log, IsLog, IsJournal, most_events, schedule_of, with_event}
use Rattle.asl_journal.proofs.ByTable.{goes_of, journal_of}
use Rattle.asl_journal.proofs.Runs.{state_snoc, goes_snoc, prefix_is_journal}
use Rattle.asl_debugger.specs.Computed.{state_before, machine_before}
use Rattle.asl_debugger.specs.Session.{IsStateAt, IsStepBetween}
use Rattle.asl_debugger.specs.declared.trail.Mark.{Mark}
use Rattle.asl_debugger.specs.Checkpoints.{IsMark, IsMarkOf, AreCheckpoints, AreMarks, IsDebuggerState}
use Rattle.asl_debugger.proofs.Marks.{each_pushed, longer, number_there}
use Rattle.asl_debugger.proofs.ByTable.{leads_before}
use Rattle.asl_debugger.proofs.Positions.{is_at}

-- a checkpoint that is there stands before the end
stands_before : (length_of count spacing index : ℕ) → count * spacing ≤ length_of + spacing → index < count → index * spacing ≤ length_of
stands_before length_of count spacing index none_past lt =
    let next : index + 1 ≤ count = omega arith in
    let more : (index + 1) * spacing ≡ index * spacing + spacing = omega arith in
    omega (arith, mul-le-mul_right spacing next, more)

-- one more event by thread t, and the machine after it
module _ (image : Image) (log : Log) (spacing position : ℕ) (checkpoints : List Rest) (marks : List Mark) (machine new : Configuration) (t : ℕ) (reply : Reply)
    (kept : IsDebuggerState image log spacing checkpoints marks machine position) (end : position ≡ length log.events) (room : length log.events < most_events) (there : t < log.threads)
    (same : new.image ≡ machine.image) (step : Step machine.image machine.state t reply new.state) where
  abbrev event : Event
  event = record { thread = t; reply = reply }

  abbrev more : Log
  more = with_event log event

  one_more : length more.events ≡ length log.events + 1
  one_more = length_push log.events event

  -- the state at the end, to which all events lead
  at_end : machine.state ≡ state_after image (start_of image log.threads) (schedule_of log.events)
  at_end =
      ap (λ (m : Configuration). m.state) kept.shown
      ∙ ap (λ (es : List Event). state_after image (start_of image log.threads) (schedule_of es)) (take_all position log.events (omega (arith, end)))

  of_image : machine.image ≡ image
  of_image = ap (λ (m : Configuration). m.image) kept.shown

  -- the step is the computed one
  said : reply ≡ (step_of machine.image machine.state t).reply
  said = (step_only machine.image machine.state t reply new.state step).0

  steps : new.state ≡ (step_of machine.image machine.state t).state
  steps = (step_only machine.image machine.state t reply new.state step).1

  is_log : IsLog more
  is_log = record { count = kept.is_log.count; short = omega (arith, one_more); there = All-push (λ (e : Event). e.thread < log.threads) log.events event kept.is_log.there there }

  journal : IsJournal image log.threads more.events
  journal =
      journal_of image log.threads more.events kept.journal.verified kept.journal.leads.counted
      (All-push (λ (e : Event). e.thread < log.threads) log.events event kept.journal.there there)
      (goes_snoc image (start_of image log.threads) log.events event (goes_of image log.threads log.events kept.journal)
      (said ∙ ap (λ (i : Image). (step_of i machine.state t).reply) of_image ∙ ap (λ (s : State). (step_of image s t).reply) at_end))

  -- the state after the event
  pub state_behind : state_before image more (position + 1) ≡ (step_of machine.image machine.state t).state
  state_behind =
      let whole : take (position + 1) more.events ≡ more.events = take_all (position + 1) more.events (omega (arith, one_more, end)) in
      ap (λ (es : List Event). state_after image (start_of image log.threads) (schedule_of es)) whole
      ∙ state_snoc image (start_of image log.threads) log.events event
      ∙ ap (λ (s : State). (step_of image s t).state) (sym at_end)
      ∙ ap (λ (i : Image). (step_of i machine.state t).state) (sym of_image)

  -- the step that the machine made leads from the state at the position to the one after the event
  step_behind : Step image (state_before image log position) t reply (state_before new.image more (position + 1))
  step_behind =
      let from : Step image (state_before image log position) t reply new.state = subst (λ (m : Configuration). Step m.image m.state t reply new.state) kept.shown step in
      let to : new.state ≡ state_before image more (position + 1) = steps ∙ sym state_behind in
      let there : Step image (state_before image log position) t reply (state_before image more (position + 1)) = subst (λ (s : State). Step image (state_before image log position) t reply s) to from in
      subst (λ (i : Image). Step image (state_before image log position) t reply (state_before i more (position + 1))) (sym (same ∙ of_image)) there

  pub step_between : (breakpoints : List ℕ) → IsStepBetween (record { image = image; log = log; position = position; breakpoints = breakpoints })
      (record { image = new.image; log = more; position = position + 1; breakpoints = breakpoints }) t reply
  step_between breakpoints = record {
    before = state_before image log position;
    from = leads_before image log kept.journal position;
    after = state_before new.image more (position + 1);
    to = subst (λ (i : Image). IsStateAt i more (position + 1) (state_before i more (position + 1))) (sym (same ∙ of_image)) (leads_before image more journal (position + 1));
    step = step_behind;
  }

  shown : new ≡ machine_before image more (position + 1)
  shown = is_at new image (state_before image more (position + 1)) (same ∙ of_image) (steps ∙ sym state_behind)

  -- what was at a position before the end is there
  stays : (k : ℕ) (rest : Rest) → k ≤ length log.events → IsMark image log k rest → IsMark image more k rest
  stays k rest le is = record {
    fits = is.fits;
    state = is.state ∙ ap (λ (es : List Event). state_after image (start_of image log.threads) (schedule_of es)) (sym (take-append-le k log.events (event ∷ []) le));
  }

  each : AreCheckpoints image more spacing checkpoints
  each = λ index rest e. stays (index * spacing) rest (stands_before (length log.events) (length checkpoints) spacing index kept.none_past (slice_get_within checkpoints index rest e)) (kept.each index rest e)

  marked : AreMarks image more marks
  marked = All-weaker (IsMarkOf image log) (IsMarkOf image more)
      (λ mark old. record { is = stays mark.position mark.rest old.within old.is; within = omega (arith, one_more, old.within) }) marks kept.marked

  kept_by : (cs : List Rest) → AreCheckpoints image more spacing cs → length more.events < length cs * spacing → length cs * spacing ≤ length more.events + spacing → IsDebuggerState image more spacing cs marks (machine_before image more (position + 1)) (position + 1)
  kept_by cs es enough none_past = record {
    is_log = is_log;
    journal = journal;
    spaced = kept.spaced;
    shown = refl;
    within = omega (arith, one_more, end);
    each = es;
    enough = enough;
    none_past = none_past;
    marked = marked;
  }

  moved_to : (cs : List Rest) → IsDebuggerState image more spacing cs marks (machine_before image more (position + 1)) (position + 1) → IsDebuggerState new.image more spacing cs marks new (position + 1)
  moved_to cs k = subst (λ (m : Configuration). IsDebuggerState m.image more spacing cs marks m (position + 1)) (sym shown) k

  -- no checkpoint is due after it
  pub kept_behind : (position + 1 ≡ length checkpoints * spacing → ⊥) → IsDebuggerState new.image more spacing checkpoints marks new (position + 1)
  kept_behind none_due =
      let enough = kept.enough in
      let none_past = kept.none_past in
      let other : position + 1 < length checkpoints * spacing = elim (cases_lt (position + 1) (length checkpoints * spacing)) [ inl lt ↦ lt | inr le ↦ absurd (none_due (omega (arith, enough, end, le))) ] in
      moved_to checkpoints (kept_by checkpoints each (omega (arith, one_more, end, other)) (omega (arith, one_more, none_past)))

  -- a checkpoint is due after it, and this is left of a machine that made the step ahead
  pub kept_with : (rest : Rest) → position + 1 ≡ length checkpoints * spacing → IsRestOf machine.image rest → (answer : Reply) × Step machine.image machine.state t answer rest.state
      → IsDebuggerState new.image more spacing (checkpoints ++ rest ∷ []) marks new (position + 1)
  kept_with rest due fits ahead =
      let state = (step_only machine.image machine.state t ahead.0 rest.state ahead.1).1 in
      let mark : IsMark image more (position + 1) rest = record { fits = subst (λ (i : Image). IsRestOf i rest) of_image fits; state = state ∙ sym state_behind } in
      let size = longer spacing checkpoints rest in
      let some = kept.spaced in
      moved_to (checkpoints ++ rest ∷ []) (kept_by (checkpoints ++ rest ∷ []) (each_pushed image more spacing (position + 1) checkpoints rest each due mark)
      (omega (arith, one_more, end, size, due, some)) (omega (arith, one_more, end, size, due)))

-- what the first so many have, all have
took : (n : ℕ) (xs : List Rest) (i : ℕ) (x : Rest) → slice_get (take n xs) i ≡ Some x → slice_get xs i ≡ Some x
took zero xs i x e = absurd cc
took (suc n) [] i x e = e
took (suc n) (y ∷ ys) zero x e = e
took (suc n) (y ∷ ys) (suc i) x e = took n ys i x e

-- a journal cut at the position
pub kept_cut : (image : Image) (log : Log) (spacing position : ℕ) (checkpoints : List Rest) (marks some_marks : List Mark) (machine : Configuration) → IsDebuggerState image log spacing checkpoints marks machine position
    → AreMarks image log some_marks → All (λ (mark : Mark). mark.position ≤ position) some_marks
    → IsDebuggerState image (record { threads = log.threads; events = take position log.events }) spacing (take (position / spacing + 1) checkpoints) some_marks machine position
kept_cut image log spacing position checkpoints marks some_marks machine kept left before =
    let within = kept.within in
    let some = kept.spaced in
    let number = position / spacing in
    let low : number * spacing ≤ position = omega (arith, some) in
    let high : position < number * spacing + spacing = omega (arith, some) in
    let there = number_there image log spacing position position number checkpoints marks machine kept within low in
    let size : length (take (number + 1) checkpoints) ≡ number + 1 = length-take-le (number + 1) checkpoints (omega (arith, there)) in
    let short : length (take position log.events) ≡ position = length-take-le position log.events within in
    let more : (number + 1) * spacing ≡ number * spacing + spacing = omega arith in
    let room : length (take (number + 1) checkpoints) * spacing ≡ number * spacing + spacing = ap (λ (n : ℕ). n * spacing) size ∙ more in
    let cut : Log = record { threads = log.threads; events = take position log.events } in
    let state = λ (k : ℕ) (le : k ≤ position). ap (λ (es : List Event). state_after image (start_of image log.threads) (schedule_of es)) (sym (take-take k position log.events le)) in
    record {
      is_log = record { count = kept.is_log.count; short = (let few = kept.is_log.short in omega (arith, short, few, within)); there = All-take (λ (e : Event). e.thread < log.threads) position log.events kept.is_log.there };
      journal = prefix_is_journal image log.threads position log.events kept.journal;
      spaced = kept.spaced;
      shown = kept.shown ∙ ap (λ (s : State). record { image = image; state = s }) (state position (omega arith));
      within = omega (arith, short);
      each = λ index rest e.
          let here = slice_get_within (take (number + 1) checkpoints) index rest e in
          let lt : index < number + 1 = omega (arith, here, size) in
          let le : index * spacing ≤ position = stands_before position (number + 1) spacing index (omega (arith, more, low)) lt in
          let old = kept.each index rest (took (number + 1) checkpoints index rest e) in
          record { fits = old.fits; state = old.state ∙ state (index * spacing) le };
      enough = omega (arith, short, room, high);
      none_past = omega (arith, short, room, low);
      marked = All-weaker (Contains some_marks) (IsMarkOf image cut)
          (λ mark here.
          let old = All-contains (IsMarkOf image log) some_marks mark left here in
          let le : mark.position ≤ position = All-contains (λ (m : Mark). m.position ≤ position) some_marks mark before here in
          record { is = record { fits = old.is.fits; state = old.is.state ∙ state mark.position le }; within = omega (arith, short, le) })
          some_marks (All-contains_itself some_marks);
    }
