-- A debugger as contracts see it: a journal of a program, a position in it, and breakpoints (docs/JOURNAL.md,
-- "The debugger").
use Rattle.std.specs.Prelude.{◌≡◌, ◌<◌, ◌≤◌, ◌⊎◌, ℕ, IsTrue, List, length, take, slice_get, Some, IsSomeAnd}
use Rattle.asl_code.specs.declared.image.Image.{Image}
use Rattle.asl_machine.specs.declared.reply.Reply.{Reply}
use Rattle.asl_machine.specs.Step.{Step}
use Rattle.asl_machine.specs.WellFormed.{MayWantMemory}
use Rattle.asl_machine.specs.State.{State, activity_at}
use Rattle.asl_machine.specs.View.{Configuration}
use Rattle.asl_journal.specs.declared.event.Event.{Event}
use Rattle.asl_journal.specs.Journal.{Log, LeadsTo}
use Rattle.asl_debugger.specs.Breaks.{has_break}

-- a program, a journal of it, the position that is shown, and the breakpoints
pub record Session : Type 0 where
  pub image : Image
  pub log : Log
  pub position : ℕ
  pub breakpoints : List ℕ

-- the state at a position: the events before it lead the program's threads there
abbrev pub IsStateAt : Image → Log → ℕ → State → Type 0
IsStateAt image log k state = LeadsTo image log.threads (take k log.events) state

-- the machine at the position: of the session's program, in the state there
pub record IsShown (s : Session) (machine : Configuration) : Type 0 where
  pub image : machine.image ≡ s.image
  pub state : IsStateAt s.image s.log s.position machine.state

-- the thread makes a step, with this reply, from the state at the position of one session to the state at that of another: by a line
-- of the instruction table
pub record IsStepBetween (old new : Session) (t : ℕ) (reply : Reply) : Type 0 where
  pub before : State
  pub from : IsStateAt old.image old.log old.position before
  pub after : State
  pub to : IsStateAt new.image new.log new.position after
  pub step : Step old.image before t reply after

-- there is an event after this position, and its step may need memory in the state there
pub record MayWantMemoryAt (image : Image) (log : Log) (k : ℕ) : Type 0 where
  pub event : Event
  pub there : slice_get log.events k ≡ Some event
  pub state : State
  pub leads : IsStateAt image log k state
  pub wants : MayWantMemory image state event.thread

-- the same session at another position
abbrev pub moved : Session → ℕ → Session
moved s k = record { image = s.image; log = s.log; position = k; breakpoints = s.breakpoints }

-- the same session with another journal, at this position
abbrev pub recorded : Session → Log → ℕ → Session
recorded s log k = record { image = s.image; log = log; position = k; breakpoints = s.breakpoints }

-- the same session with other breakpoints
abbrev pub with_breaks : Session → List ℕ → Session
with_breaks s breakpoints = record { image = s.image; log = s.log; position = s.position; breakpoints = breakpoints }

-- the thread runs in this state, and is at a breakpoint
abbrev pub IsAtBreak : List ℕ → State → ℕ → Type 0
IsAtBreak breakpoints s t = IsSomeAnd (activity_at s.threads t) (λ activity. IsTrue (has_break breakpoints activity.top.pc))

-- the position is a stop: there is an event after it, and in the state there the thread of that event runs and is at a breakpoint
pub record IsStop (s : Session) (k : ℕ) : Type 0 where
  pub event : Event
  pub there : slice_get s.log.events k ≡ Some event
  pub state : State
  pub leads : IsStateAt s.image s.log k state
  pub breaks : IsAtBreak s.breakpoints state event.thread

-- the least later stop, or the end where there is none
pub record IsNextStop (s : Session) (k : ℕ) : Type 0 where
  pub later : s.position < k
  pub within : k ≤ length s.log.events
  pub none_between : (j : ℕ) → s.position < j → j < k → ¬ IsStop s j
  pub stops : IsStop s k ⊎ (k ≡ length s.log.events)

-- the greatest earlier stop, or the start where there is none
pub record IsLastStop (s : Session) (k : ℕ) : Type 0 where
  pub earlier : k < s.position
  pub none_between : (j : ℕ) → k < j → j < s.position → ¬ IsStop s j
  pub stops : IsStop s k ⊎ (k ≡ 0)
