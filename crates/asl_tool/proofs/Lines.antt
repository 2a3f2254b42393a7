-- The lines of a journal, as a loop writes them: those of the events so far, and then those of the rest.
use Rattle.std.proofs.Common.{◌≡◌, ℕ, ◌+◌, ◌<◌, List, [], ◌++◌, length, drop, get_or, refl, ◌∙◌, ap, drop-cons, add-one, arith}
use Rattle.std.proofs.Math.ListN.{drop_of_length-le}
use Rattle.asl_journal.specs.declared.event.Event.{Event}
use Rattle.asl_show.specs.Replies.{step_line}
use Rattle.asl_tool.specs.Output.{event_lines}

-- the lines of what is left
abbrev pub left_lines : List Event → ℕ → List ℕ
left_lines events number = event_lines number (drop number events)

-- the next event's line, and then those after it
pub left_lines-step : (events : List Event) (number : ℕ) (d : Event) → number < length events
    → left_lines events number
    ≡ step_line number (get_or events number d).thread (get_or events number d).reply ++ left_lines events (number + 1)
left_lines-step events number d lt =
    ap (λ l. event_lines number l) (drop-cons events number d lt)
    ∙ rw add-one refl

pub left_lines-end : (events : List Event) (number : ℕ) → length events ≡ number → left_lines events number ≡ []
left_lines-end events number e =
    ap (λ l. event_lines number l) (drop_of_length-le events (omega arith))
