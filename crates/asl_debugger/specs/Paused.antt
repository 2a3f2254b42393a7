-- A debugger that is kept without its program, until it continues over the same program.
use Rattle.std.specs.Prelude.{ℕ, List}
use Rattle.asl_code.specs.declared.image.Image.{Image}
use Rattle.asl_machine.specs.Paused.{Rest, IsRestOf}
use Rattle.asl_journal.specs.Journal.{Log}
use Rattle.asl_debugger.specs.declared.trail.Mark.{Mark}
use Rattle.asl_debugger.specs.Checkpoints.{IsDebuggerState}

-- what is kept: the journal, the position in it, the breakpoints, what the machine there leaves, checkpoints at this spacing, and
-- marks between them
pub record SessionRest : Type 0 where
  pub log : Log
  pub position : ℕ
  pub breakpoints : List ℕ
  pub machine : Rest
  pub spacing : ℕ
  pub checkpoints : List Rest
  pub marks : List Mark

-- it is what is left of a debugger over this program; who pauses one gets it, and who lets it continue gives it
pub record IsSessionRestOf (image : Image) (rest : SessionRest) : Type 0 where
  pub machine : IsRestOf image rest.machine
  pub kept : IsDebuggerState image rest.log rest.spacing rest.checkpoints rest.marks (record { image = image; state = rest.machine.state }) rest.position
