-- The view of a machine, as the command `debug` writes it (docs/JOURNAL.md, "The view").
use Rattle.std.specs.Prelude.{ℕ, List, [], ◌∷◌, ◌++◌, length, slice_get, option_and_then, codes, if◌then◌else◌}
use Rattle.std.specs.Fmt.{decimal}
use Rattle.std.specs.Option.{option_map_or}
use Rattle.asl_code.specs.declared.value.Value.{Value}
use Rattle.asl_machine.specs.State.{Thread, Running, Done, Failed, State, activity_at}
use Rattle.asl_machine.specs.Cover.{is_fresh}
use Rattle.asl_machine.specs.Fresh.{fresh_at}
use Rattle.asl_machine.specs.View.{Configuration}
use Rattle.asl_show.specs.Replies.{value_text, fault_text}
use Rattle.asl_show.specs.Lines.{lines_from}
use Rattle.asl_show.specs.Objects.{object_text}
use Rattle.asl_show.specs.Nodes.{held_line, node_lines}

-- ---- the threads

-- where a thread is: at a place of the code and in so many sections, or at its end
abbrev pub place_line : ℕ → Thread → List ℕ
place_line t (Running a) = codes "thread " ++ decimal t ++ codes " pc " ++ decimal a.top.pc ++ codes " depth " ++ decimal a.depth ++ 10 ∷ []
place_line t (Done value) = codes "thread " ++ decimal t ++ codes " done " ++ value_text value ++ 10 ∷ []
place_line t (Failed f) = codes "thread " ++ decimal t ++ codes " failed " ++ fault_text f ++ 10 ∷ []

-- the same of the thread of this number
abbrev pub place_at : State → ℕ → List ℕ
place_at s t = option_map_or (place_line t) (slice_get s.threads t) []

-- the line of a register
abbrev pub register_line : ℕ → ℕ → Value → List ℕ
register_line t r value = codes "reg " ++ decimal t ++ codes " " ++ decimal r ++ codes " " ++ value_text value ++ 10 ∷ []

-- the line of a register of the thread's top frame, if the thread runs and the register is there
abbrev pub register_at : State → ℕ → ℕ → List ℕ
register_at s t r = option_map_or (register_line t r) (option_and_then (λ a. slice_get a.top.regs r) (activity_at s.threads t)) []

-- a thread: where it is, and its registers, of which there are 64 at most
abbrev pub thread_text : State → ℕ → List ℕ
thread_text s t = place_at s t ++ lines_from (register_at s t) 0 64

-- ---- who holds what

-- what a thread holds: the root, classes, leaves
abbrev pub holding_text : ℕ → State → ℕ → List ℕ
holding_text classes s t = node_lines classes s (held_line s t)

-- ---- what is fresh for whom

-- the line of an object, if it is fresh for the thread
abbrev pub fresh_line : State → ℕ → ℕ → List ℕ
fresh_line s t o = if is_fresh (fresh_at s.threads t) o then codes "fresh " ++ decimal t ++ codes " " ++ decimal o ++ 10 ∷ [] else []

-- the objects that are fresh for a thread
abbrev pub fresh_text : State → ℕ → List ℕ
fresh_text s t = lines_from (fresh_line s t) 0 (length s.objects)

-- ---- the whole

-- the view: the threads, the cells, what each thread holds, and what is fresh for each
abbrev pub view_text : Configuration → List ℕ
view_text m =
    lines_from (thread_text m.state) 0 (length m.state.threads)
    ++ (lines_from (object_text m.state) 0 (length m.state.objects)
    ++ (lines_from (holding_text m.image.classes m.state) 0 (length m.state.threads)
    ++ lines_from (fresh_text m.state) 0 (length m.state.threads)))
