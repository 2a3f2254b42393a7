-- What the command `run` answers: the output of any journal that workers may leave (docs/WORKERS.md, "The command `run`").
use Rattle.std.specs.Prelude.{◌≡◌, ◌≤◌, ◌⊎◌, ℕ, All, List, Option, length}
use Rattle.asl_code.specs.declared.image.Image.{Image}
use Rattle.asl_machine.specs.State.{State}
use Rattle.asl_journal.specs.Journal.{Log, IsJournal, LeadsTo}
use Rattle.asl_journal.specs.declared.event.Receipt.{Receipt}
use Rattle.asl_runner.specs.History.{AreDealt, HaveEnded, IsAsked, WasRunning}
use Rattle.asl_runner.specs.Refused.{IsRefusal}
use Rattle.asl_runner.specs.declared.fault.RunFault.{RunFault}
use Rattle.asl_runner.specs.declared.report.Report.{Report}
use Rattle.asl_command_line.specs.declared.command.RunArguments.{RunArguments}
use Rattle.asl_tool.specs.declared.command_fault.CommandFault.{CommandFault}
use Rattle.asl_tool.specs.declared.command_fault.CommandFault.TheVariants as fault
use Rattle.asl_tool.specs.Program.{IsProgram, IsNoProgram}
use Rattle.asl_tool.specs.Step.{written}

-- the journal is one that the workers may leave of the program: it is dealt out to as many of them as were asked for, no step of it is of a
-- thread that had ended before, it has at most so many events as the limit says, and either each thread has ended in the state to which
-- it leads or there are exactly so many
pub record IsWorked (image : Image) (team : RunArguments) (log : Log) : Type 0 where
  pub threads_are : log.threads ≡ team.threads
  pub journal : IsJournal image team.threads log.events
  pub receipts : List (List Receipt)
  pub dealt : AreDealt team.workers log.events receipts
  pub running : All (λ event. WasRunning event.reply) log.events
  pub short : length log.events ≤ team.limit
  pub state : State
  pub leads : LeadsTo image team.threads log.events state
  pub end : HaveEnded state team.threads ⊎ (length log.events ≡ team.limit)

-- the input is a program, and the output is what is written of a journal that the workers may leave of it
pub record IsWorkOutput (team : RunArguments) (input output : List ℕ) : Type 0 where
  pub image : Image
  pub log : Log
  pub program : IsProgram input image
  pub asked : IsAsked image team.threads team.workers team.limit
  pub worked : IsWorked image team log
  pub output_is : output ≡ written team.record image log

-- the input is a program that so many workers may run
pub record IsWorkable (team : RunArguments) (input : List ℕ) : Type 0 where
  pub image : Image
  pub program : IsProgram input image
  pub asked : IsAsked image team.threads team.workers team.limit

-- the workers' run of the program is refused
abbrev pub IsRefusedRunOf : Image → RunArguments → RunFault → Type 0
IsRefusedRunOf image team cause = (report : Option Report) × IsRefusal image team.threads team.workers team.limit cause report

-- the input is a program, whose run by the workers is refused
pub record HasRefusedWork (team : RunArguments) (input : List ℕ) (cause : RunFault) : Type 0 where
  pub image : Image
  pub program : IsProgram input image
  pub refused : IsRefusedRunOf image team cause

-- what each refusal of `run` says of the input; lack of memory for the output comes only where the input is a program that the
-- workers may run
abbrev pub IsRefusedWork : RunArguments → List ℕ → CommandFault → Type 0
IsRefusedWork team input (fault.Program cause) = IsNoProgram input cause
IsRefusedWork team input (fault.Run cause) = HasRefusedWork team input cause
IsRefusedWork team input fault.OutOfMemory = IsWorkable team input
IsRefusedWork team input f = ⊥
