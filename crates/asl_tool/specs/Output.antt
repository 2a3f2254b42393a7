-- The lines that commands write of a journal's events, and those with the place of each step (docs/JOURNAL.md, "Reading a run").
use Rattle.std.specs.Prelude.{◌≡◌, ℕ, suc, List, [], ◌∷◌, ◌++◌}
use Rattle.asl_code.specs.declared.image.Image.{Image}
use Rattle.asl_machine.specs.State.{State}
use Rattle.asl_machine.specs.Step.{Step}
use Rattle.asl_journal.specs.declared.event.Event.{Event}
use Rattle.asl_show.specs.Replies.{step_line}
use Rattle.asl_show.specs.Trace.{trace_line}

-- the lines of a journal's events, numbered from the given number on
abbrev pub event_lines : ℕ → List Event → List ℕ
event_lines number [] = []
event_lines number (event ∷ events) = step_line number event.thread event.reply ++ event_lines (suc number) events

-- the text is the same lines, each with the place of its thread before it: from this state on, each event is a step of its thread
-- by a line of the instruction table
abbrev pub AreTraced : Image → State → ℕ → List Event → List ℕ → Type 0
AreTraced image s number [] text = text ≡ []
AreTraced image s number (event ∷ events) text =
    (next : State) × (rest : List ℕ) × Step image s event.thread event.reply next × AreTraced image next (suc number) events rest
    × (text ≡ trace_line s number event.thread event.reply ++ rest)
