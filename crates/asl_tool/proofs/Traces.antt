-- The lines of a trace, as a loop writes them: those of the events so far, and then those of the rest.
use Rattle.std.proofs.Common.{◌≡◌, ℕ, suc, ◌+◌, ◌<◌, ◌≤◌, List, [], ◌∷◌, ◌++◌, length, drop, get_or, refl, sym, subst, ◌∙◌, ap, append_assoc, append-nil, drop-cons, add-one}
use Rattle.std.proofs.Math.ListN.{drop_of_length-le}
use Rattle.std.specs.Prelude.{Bool, true, false}
use Rattle.std.proofs.lemmas.List.Elements.{All-head, All-tail}
use Rattle.asl_code.specs.declared.image.Image.{Image}
use Rattle.asl_code.proofs.FitsLaws.{image_fits}
use Rattle.asl_machine.specs.State.{State}
use Rattle.asl_machine.specs.Run.{start_of}
use Rattle.asl_machine.specs.StepFunction.{step_of}
use Rattle.asl_machine.specs.View.{Configuration}
use Rattle.asl_machine.proofs.Invariant.{step_sound}
use Rattle.asl_machine.proofs.Starts.{start_sound, length-first_threads}
use Rattle.asl_machine.specs.declared.reply.Reply.{Reply}
use Rattle.asl_machine.specs.Step.{Step}
use Rattle.asl_machine.specs.WellFormed.{SatisfiesInvariant}
use Rattle.asl_machine.proofs.Reached.{step_count}
use Rattle.asl_machine.proofs.Table.{step_is}
use Rattle.asl_machine.proofs.Unique.{step_only}
use Rattle.asl_journal.specs.declared.event.Event.{Event}
use Rattle.asl_journal.specs.Journal.{Log, AreThere, IsJournal}
use Rattle.asl_journal.specs.Computed.{GoesBy}
use Rattle.asl_journal.proofs.ByTable.{goes_of}
use Rattle.asl_journal.proofs.Runs.{goes_head, goes_tail}
use Rattle.asl_show.specs.Trace.{trace_line}
use Rattle.asl_tool.specs.Output.{event_lines, AreTraced}
use Rattle.asl_tool.specs.Log.{IsLogText}

-- the lines with places, by the computed step
abbrev pub trace_lines : Image → State → ℕ → List Event → List ℕ
trace_lines image s number [] = []
trace_lines image s number (event ∷ events) =
    trace_line s number event.thread event.reply ++ trace_lines image (step_of image s event.thread).state (suc number) events

-- the lines of what is left, from the state of the machine on
abbrev left_lines : Configuration → List Event → ℕ → List ℕ
left_lines m events number = trace_lines m.image m.state number (drop number events)

-- the machine has made the steps of the first events, so many, and the text has their lines
pub record HasTraced (image : Image) (threads : ℕ) (events : List Event) (m : Configuration) (number : ℕ) (text : List ℕ) : Type 0 where
  pub count : length m.state.threads ≡ threads
  pub lines : text ++ left_lines m events number ≡ trace_lines image (start_of image threads) 0 events

pub none_traced : (image : Image) (threads : ℕ) (events : List Event) (m : Configuration) → m.image ≡ image → m.state ≡ start_of image threads → HasTraced image threads events m 0 []
none_traced image threads events m i s = record {
  count = ap (λ (u : State). length u.threads) s ∙ length-first_threads image threads;
  lines = ap (λ (j : Image). trace_lines j m.state 0 events) i ∙ ap (λ (u : State). trace_lines image u 0 events) s;
}

pub one_traced : (image : Image) (threads : ℕ) (events : List Event) (m new : Configuration) (number : ℕ) (d : Event) (old text : List ℕ) → number < length events
    → HasTraced image threads events m number old → new.image ≡ m.image → (answer : Reply) × Step m.image m.state (get_or events number d).thread answer new.state
    → text ≡ old ++ trace_line m.state number (get_or events number d).thread (get_or events number d).reply → HasTraced image threads events new (number + 1) text
one_traced image threads events m new number d old text lt h i step grows =
    let event : Event = get_or events number d in
    let s = (step_only m.image m.state event.thread step.0 new.state step.1).1 in
    let line = trace_line m.state number event.thread event.reply in
    let next : left_lines m events number ≡ line ++ left_lines new events (number + 1) =
    ap (λ es. trace_lines m.image m.state number es) (drop-cons events number d lt)
    ∙ ap (λ (u : State). line ++ trace_lines m.image u (suc number) (drop (suc number) events)) (sym s)
    ∙ ap (λ (j : Image). line ++ trace_lines j new.state (suc number) (drop (suc number) events)) (sym i)
    ∙ rw add-one refl in
    record {
      count = ap (λ (u : State). length u.threads) s ∙ step_count m.image m.state event.thread ∙ h.count;
      lines = ap (λ (l : List ℕ). l ++ left_lines new events (number + 1)) grows
          ∙ append_assoc old line (left_lines new events (number + 1))
          ∙ ap (λ (l : List ℕ). old ++ l) (sym next)
          ∙ h.lines;
    }

pub all_traced : (image : Image) (threads : ℕ) (events : List Event) (m : Configuration) (number : ℕ) (text : List ℕ) → length events ≤ number → HasTraced image threads events m number text
    → text ≡ trace_lines image (start_of image threads) 0 events
all_traced image threads events m number text le h =
    sym (append-nil text)
    ∙ ap (λ es. text ++ trace_lines m.image m.state number es) (sym (drop_of_length-le events le))
    ∙ h.lines

-- ---- by the table

-- the computed lines of events that go by the computed step are those by the table
traced_from : (image : Image) (count : ℕ) (events : List Event) (s : State) (number : ℕ) → SatisfiesInvariant image s → length s.threads ≡ count → AreThere count events → GoesBy image s events →
    AreTraced image s number events (trace_lines image s number events)
traced_from image count [] s number sound threads there goes = refl
traced_from image count (e ∷ es) s number sound threads there goes =
    let here : e.thread < length s.threads = subst (λ (n : ℕ). e.thread < n) (sym threads) (All-head (λ (x : Event). x.thread < count) e es there) in
    let next = (step_of image s e.thread).state in (
      next,
      trace_lines image next (suc number) es,
      subst (λ (r : Reply). Step image s e.thread r next) (sym (goes_head image s e es goes)) (step_is image s e.thread sound here),
      traced_from image count es next (suc number) (step_sound image s e.thread sound) (step_count image s e.thread ∙ threads) (All-tail (λ (x : Event). x.thread < count) e es there) (goes_tail image s e es goes),
      refl,
    )

-- and no others are
only_traced : (image : Image) (events : List Event) (s : State) (number : ℕ) (text : List ℕ) → SatisfiesInvariant image s → AreTraced image s number events text → text ≡ trace_lines image s number events
only_traced image [] s number text sound h = h
only_traced image (e ∷ es) s number text sound h =
    let only = step_only image s e.thread e.reply h.0 h.2 in
    let rest = subst (λ (u : State). AreTraced image u (suc number) es h.1) only.1 h.3 in
    h.4 ∙ ap (λ (l : List ℕ). trace_line s number e.thread e.reply ++ l) (only_traced image es (step_of image s e.thread).state (suc number) h.1 (step_sound image s e.thread sound) rest)

pub traced_journal : (image : Image) (count : ℕ) (events : List Event) → IsJournal image count events → AreTraced image (start_of image count) 0 events (trace_lines image (start_of image count) 0 events)
traced_journal image count events j =
    traced_from image count events (start_of image count) 0 (start_sound image count (image_fits image j.verified)) (length-first_threads image count) j.there (goes_of image count events j)

-- the lines of a journal, computed
abbrev pub log_text : Bool → Image → Log → List ℕ
log_text false image log = event_lines 0 log.events
log_text true image log = trace_lines image (start_of image log.threads) 0 log.events

pub is_log_text : (trace : Bool) (image : Image) (log : Log) → IsJournal image log.threads log.events → IsLogText trace image log (log_text trace image log)
is_log_text false image log j = refl
is_log_text true image log j = traced_journal image log.threads log.events j

pub only_log_text : (trace : Bool) (image : Image) (log : Log) (text : List ℕ) → IsJournal image log.threads log.events → IsLogText trace image log text → text ≡ log_text trace image log
only_log_text false image log text j h = h
only_log_text true image log text j h = only_traced image log.events (start_of image log.threads) 0 text (start_sound image log.threads (image_fits image j.verified)) h
