-- A journal is a run by the table, and every schedule has one.
use Rattle.std.proofs.Common.{◌≡◌, ℕ, ◌<◌, List, [], ◌∷◌, length, refl, ap, ap₂, sym, ◌∙◌, subst, arith}
use Rattle.std.specs.Prelude.{All}
use Rattle.std.proofs.lemmas.List.Elements.{All-nil, All-cons, All-head, All-tail}
use Rattle.asl_code.specs.declared.image.Image.{Image}
use Rattle.asl_code.specs.Verified.{IsVerified}
use Rattle.asl_code.specs.Versions.{most_threads, limits_of}
use Rattle.asl_machine.specs.declared.reply.Reply.{Reply}
use Rattle.asl_machine.specs.State.{State}
use Rattle.asl_machine.specs.Run.{IsThreadCount, start_of, RunsBy}
use Rattle.asl_machine.specs.Step.{Step}
use Rattle.asl_machine.specs.StepFunction.{step_of}
use Rattle.asl_machine.proofs.Starts.{length-first_threads}
use Rattle.asl_machine.proofs.Lines.{line_there}
use Rattle.asl_machine.proofs.Reached.{line_count}
use Rattle.asl_machine.proofs.Unique.{step_only}
use Rattle.asl_journal.specs.declared.event.Event.{Event}
use Rattle.asl_journal.specs.Journal.{AreThere, LeadsTo, IsJournal, schedule_of, replies_in}
use Rattle.asl_journal.specs.Computed.{GoesBy}
use Rattle.asl_journal.proofs.ByTable.{goes_of, journal_of}
use Rattle.asl_journal.proofs.Runs.{goes_head, goes_tail, goes_cons}
use Rattle.asl_atomicity.specs.Serial.{TakenStep, IsRun}
use Rattle.asl_theorems.specs.Journals.{event_of, events_of}

-- ---- a journal's steps are a run

-- events by the table are those of steps
pub steps_of : (image : Image) (events : List Event) (s end : State) → RunsBy image s (schedule_of events) (replies_in events) end →
    (steps : List TakenStep) × IsRun image s steps end × (events ≡ events_of steps)
steps_of image [] s end e = ([], e, refl)
steps_of image (event ∷ events) s end runs =
    let rest = steps_of image events runs.0 end runs.2 in
    (record { before = s; thread = event.thread; reply = event.reply } ∷ rest.0, (refl, runs.0, runs.1, rest.1), ap (λ (xs : List Event). event ∷ xs) rest.2)

-- ---- a run is a journal's

-- events that go by the table are of threads that are there
events_there : (image : Image) (count : ℕ) (events : List Event) (s : State) (end : State) → length s.threads ≡ count → RunsBy image s (schedule_of events) (replies_in events) end → AreThere count events
events_there image count [] s end n e = All-nil (λ (x : Event). x.thread < count)
events_there image count (event ∷ events) s end n e =
    All-cons (λ (x : Event). x.thread < count) event events (subst (λ (k : ℕ). event.thread < k) n (line_there image s event.thread event.reply e.0 e.1))
    (events_there image count events e.0 end (line_count image s event.thread event.reply e.0 e.1 ∙ n) e.2)

-- events that lead to a state are a journal of a program
pub lead_journal : (image : Image) (count : ℕ) (events : List Event) (end : State) → IsVerified image → LeadsTo image count events end → IsJournal image count events
lead_journal image count events end v leads =
    record { verified = v; there = events_there image count events (start_of image count) end (length-first_threads image count) leads.runs; end = end; leads = leads }

-- the events of steps that go by the table go by it
pub steps_table : (image : Image) (steps : List TakenStep) (s : State) (end : State) → IsRun image s steps end → RunsBy image s (schedule_of (events_of steps)) (replies_in (events_of steps)) end
steps_table image [] s end e = e
steps_table image (step ∷ steps) s end e = (e.1, e.2, steps_table image steps e.1 end e.3)

-- ---- events are those of one run

-- a step with the same thread and reply leads to the same state
same_after : (image : Image) (s new other : State) (one two : Event) → one ≡ two → Step image s one.thread one.reply new → Step image s two.thread two.reply other → new ≡ other
same_after image s new other one two e h k =
    (step_only image s one.thread one.reply new h).1 ∙ ap (λ (event : Event). (step_of image s event.thread).state) e ∙ sym (step_only image s two.thread two.reply other k).1

same_step : (x y : TakenStep) → x.before ≡ y.before → event_of x ≡ event_of y → x ≡ y
same_step x y before told =
    ap₂ {C = TakenStep} (λ (s : State) (event : Event). record { before = s; thread = event.thread; reply = event.reply }) before told

pub one_run_of : (image : Image) (steps others : List TakenStep) (s end other : State) → IsRun image s steps end → IsRun image s others other → events_of steps ≡ events_of others → steps ≡ others
one_run_of image [] [] s end other p q e = refl
one_run_of image [] (y ∷ ys) s end other p q e = absurd cc
one_run_of image (x ∷ xs) [] s end other p q e = absurd cc
one_run_of image (x ∷ xs) (y ∷ ys) s end other p q e =
    let first : event_of x ≡ event_of y = cc in
    let rest : events_of xs ≡ events_of ys = cc in
    let next = same_after image s p.1 q.1 (event_of x) (event_of y) first p.2 q.2 in
    ap₂ {C = List TakenStep} (λ z zs. z ∷ zs) (same_step x y (p.0 ∙ sym q.0) first)
    (one_run_of image xs ys p.1 end other p.3 (subst (λ (u : State). IsRun image u ys other) (sym next) q.3) rest)

-- ---- every schedule has one journal

abbrev pub events_on : Image → State → List ℕ → List Event
events_on image s [] = []
events_on image s (t ∷ ts) = record { thread = t; reply = (step_of image s t).reply } ∷ events_on image (step_of image s t).state ts

goes_on : (image : Image) (schedule : List ℕ) (s : State) → GoesBy image s (events_on image s schedule)
goes_on image [] s = refl
goes_on image (t ∷ ts) s =
    goes_cons image s (record { thread = t; reply = (step_of image s t).reply }) (events_on image (step_of image s t).state ts) refl (goes_on image ts (step_of image s t).state)

pub same_schedule : (image : Image) (schedule : List ℕ) (s : State) → schedule_of (events_on image s schedule) ≡ schedule
same_schedule image [] s = refl
same_schedule image (t ∷ ts) s = ap (λ (us : List ℕ). t ∷ us) (same_schedule image ts (step_of image s t).state)

there_on : (image : Image) (count : ℕ) (schedule : List ℕ) (s : State) → All (λ t. t < count) schedule → AreThere count (events_on image s schedule)
there_on image count [] s there = All-nil (λ (x : Event). x.thread < count)
there_on image count (t ∷ ts) s there =
    All-cons (λ (x : Event). x.thread < count) (record { thread = t; reply = (step_of image s t).reply }) (events_on image (step_of image s t).state ts)
    (All-head (λ u. u < count) t ts there) (there_on image count ts (step_of image s t).state (All-tail (λ u. u < count) t ts there))

pub some_journal : (image : Image) (count : ℕ) (schedule : List ℕ) → IsVerified image → IsThreadCount image count → All (λ t. t < count) schedule → IsJournal image count (events_on image (start_of image count) schedule)
some_journal image count schedule v counted there =
    journal_of image count (events_on image (start_of image count) schedule) v counted (there_on image count schedule (start_of image count) there) (goes_on image schedule (start_of image count))

-- the replies of a journal are those of its schedule
only_events : (image : Image) (events : List Event) (s : State) → GoesBy image s events → events ≡ events_on image s (schedule_of events)
only_events image [] s goes = refl
only_events image (e ∷ es) s goes =
    ap₂ {C = List Event} (λ x xs. x ∷ xs) (ap (λ (r : Reply). record { thread = e.thread; reply = r }) (goes_head image s e es goes))
    (only_events image es (step_of image s e.thread).state (goes_tail image s e es goes))

pub one_journal : (image : Image) (count : ℕ) (events others : List Event) → IsJournal image count events → IsJournal image count others → schedule_of events ≡ schedule_of others → events ≡ others
one_journal image count events others p q same =
    only_events image events (start_of image count) (goes_of image count events p) ∙ ap (events_on image (start_of image count)) same ∙ sym (only_events image others (start_of image count) (goes_of image count others q))

-- ---- and of other programs not each has

-- a program with no code, which is not verified
abbrev pub bare : Image
bare = record { version = 1; classes = 0; globals = []; functions = []; start = 0; code = []; lists = [] }

-- one thread of it may start
pub few : IsThreadCount bare 1
unfolding most_threads limits_of
few = (omega arith, omega arith)

pub only_first : All (λ (t : ℕ). t < 1) (0 ∷ [])
only_first = All-cons (λ (t : ℕ). t < 1) 0 [] (omega arith) (All-nil (λ (t : ℕ). t < 1))

-- and is where no line of the table applies
no_line : (r : Reply) (new : State) → Step bare (start_of bare 1) 0 r new → ⊥
no_line r new h = absurd cc

pub none_of_bare : (events : List Event) (end : State) → LeadsTo bare 1 events end → schedule_of events ≡ 0 ∷ [] → ⊥
none_of_bare [] end leads e = absurd cc
none_of_bare (event ∷ events) end leads e =
    let first : event.thread ≡ 0 = cc in
    no_line event.reply leads.runs.0 (subst (λ (t : ℕ). Step bare (start_of bare 1) t event.reply leads.runs.0) first leads.runs.1)
