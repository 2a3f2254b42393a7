-- The lines of events, as a loop writes them: those of the events so far, and then those of the rest.
use Rattle.std.proofs.Common.{◌≡◌, ℕ, suc, ◌+◌, ◌<◌, List, [], ◌++◌, length, drop, get_or, ◌∙◌, ap, drop-cons, arith}
use Rattle.std.proofs.Math.ListN.{drop_of_length-le}
use Rattle.asl_journal.specs.declared.event.Event.{Event}
use Rattle.asl_show.specs.Replies.{step_line}
use Rattle.asl_c_sessions.specs.Pages.{event_lines}

-- the lines of what is left after so many events
abbrev pub left_lines : ℕ → List Event → ℕ → List ℕ
left_lines first events index = event_lines (first + index) (drop index events)

-- the next event's line, and then those after it
pub left_lines-step : (first : ℕ) (events : List Event) (index : ℕ) (d : Event) → index < length events
    → left_lines first events index
    ≡ step_line (first + index) (get_or events index d).thread (get_or events index d).reply ++ left_lines first events (index + 1)
left_lines-step first events index d lt =
    let next : suc (first + index) ≡ first + (index + 1) = omega arith in
    let more : suc index ≡ index + 1 = omega arith in
    ap (λ (l : List Event). event_lines (first + index) l) (drop-cons events index d lt)
    ∙ ap (λ (n : ℕ). step_line (first + index) (get_or events index d).thread (get_or events index d).reply ++ event_lines n (drop (suc index) events)) next
    ∙ ap (λ (n : ℕ). step_line (first + index) (get_or events index d).thread (get_or events index d).reply ++ event_lines (first + (index + 1)) (drop n events)) more

pub left_lines-end : (first : ℕ) (events : List Event) (index : ℕ) → length events ≡ index → left_lines first events index ≡ []
left_lines-end first events index e =
    ap (λ (l : List Event). event_lines (first + index) l) (drop_of_length-le events (omega arith))
