-- The lines of a run with the place of each step (docs/JOURNAL.md, "Reading a run").
use Rattle.std.specs.Prelude.{ℕ, List, [], ◌∷◌, ◌++◌, Option, None, Some, codes}
use Rattle.std.specs.Fmt.{decimal}
use Rattle.asl_machine.specs.declared.reply.Reply.{Reply}
use Rattle.asl_machine.specs.State.{Activity, State, activity_at}
use Rattle.asl_show.specs.Replies.{reply_text}

-- where a thread is before a step: its pc and its depth, `-` for both of one that has ended
abbrev pub before_text : Option Activity → List ℕ
before_text None = codes "- -"
before_text (Some a) = decimal a.top.pc ++ codes " " ++ decimal a.depth

-- the line of a step from this state: its number, its thread, where the thread is before it, the reply
abbrev pub trace_line : State → ℕ → ℕ → Reply → List ℕ
trace_line s number thread r =
    decimal number ++ codes " " ++ decimal thread ++ codes " " ++ before_text (activity_at s.threads thread) ++ codes " " ++ reply_text r ++ 10 ∷ []
