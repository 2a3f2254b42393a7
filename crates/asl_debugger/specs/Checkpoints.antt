-- Machinery of the proofs, not of the promise: what a debugger keeps of its fields (src/checkpoints.rt, src/trail.rt); contracts speak of
-- sessions.
use Rattle.std.specs.Prelude.{◌≡◌, ◌<◌, ◌≤◌, ◌+◌, ◌*◌, ℕ, All, List, length, slice_get, Some}
use Rattle.asl_code.specs.declared.image.Image.{Image}
use Rattle.asl_machine.specs.View.{Configuration}
use Rattle.asl_machine.specs.Paused.{Rest, IsRestOf}
use Rattle.asl_journal.specs.Journal.{Log, IsLog, IsJournal}
use Rattle.asl_debugger.specs.declared.trail.Mark.{Mark}
use Rattle.asl_debugger.specs.Computed.{machine_before, state_before}

-- this is left of the machine at the position
pub record IsMark (image : Image) (log : Log) (k : ℕ) (rest : Rest) : Type 0 where
  pub fits : IsRestOf image rest
  pub state : rest.state ≡ state_before image log k

-- each checkpoint is left of the machine at its position: the spacing times its number
abbrev pub AreCheckpoints : Image → Log → ℕ → List Rest → Type 0
AreCheckpoints image log spacing checkpoints =
    (index : ℕ) (rest : Rest) → slice_get checkpoints index ≡ Some rest → IsMark image log (index * spacing) rest

-- this is left of the machine at a position of the journal
pub record IsMarkOf (image : Image) (log : Log) (mark : Mark) : Type 0 where
  pub is : IsMark image log mark.position mark.rest
  pub within : mark.position ≤ length log.events

-- each of these is
abbrev pub AreMarks : Image → Log → List Mark → Type 0
AreMarks image log marks = All (IsMarkOf image log) marks

-- the events are a journal of the program, whose machine is shown at this position, with checkpoints over all of it, none past its
-- end, and marks
pub record IsDebuggerState (image : Image) (log : Log) (spacing : ℕ) (checkpoints : List Rest) (marks : List Mark) (machine : Configuration) (position : ℕ) : Type 0 where
  pub is_log : IsLog log
  pub journal : IsJournal image log.threads log.events
  pub spaced : 0 < spacing
  pub shown : machine ≡ machine_before image log position
  pub within : position ≤ length log.events
  pub each : AreCheckpoints image log spacing checkpoints
  pub enough : length log.events < length checkpoints * spacing
  pub none_past : length checkpoints * spacing ≤ length log.events + spacing
  pub marked : AreMarks image log marks
