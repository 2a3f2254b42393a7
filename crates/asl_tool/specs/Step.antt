-- What the command `step` answers: its output, or a named refusal (docs/CLI.md, "Refusals").
use Rattle.std.specs.Prelude.{◌≡◌, ℕ, ◌<◌, ◌≤◌, Bool, true, false, List, length, take, All}
use Rattle.asl_code.specs.declared.image.Image.{Image}
use Rattle.asl_machine.specs.Run.{IsThreadCount}
use Rattle.asl_journal.specs.declared.fault.JournalFault.{JournalFault}
use Rattle.asl_journal.specs.declared.fault.JournalFault.TheVariants as journal
use Rattle.asl_journal.specs.Journal.{Log, IsJournal, schedule_of, most_events}
use Rattle.asl_journal.specs.RunFile.{SpellsRun, run_bytes}
use Rattle.asl_tool.specs.Output.{event_lines}
use Rattle.asl_tool.specs.Program.{IsProgram}

-- every thread of the schedule is there
abbrev pub AllThere : ℕ → List ℕ → Type 0
AllThere threads schedule = All (λ t. t < threads) schedule

-- the program may start with so many threads, and the schedule is of these, with no more steps than a journal has
pub record IsSchedule (image : Image) (threads : ℕ) (schedule : List ℕ) : Type 0 where
  pub count : IsThreadCount image threads
  pub short : length schedule ≤ most_events
  pub there : AllThere threads schedule

-- the journal is the one of the program over the schedule
pub record IsRecord (image : Image) (threads : ℕ) (schedule : List ℕ) (log : Log) : Type 0 where
  pub threads_are : log.threads ≡ threads
  pub schedule_is : schedule_of log.events ≡ schedule
  pub journal : IsJournal image threads log.events

-- what is written of a journal: a line for each event, or all of it, with its program, as a run file
abbrev pub written : Bool → Image → Log → List ℕ
written false image log = event_lines 0 log.events
written true image log = run_bytes image log

-- the input is a program, and the output is what is written of its journal over the schedule
pub record IsStepped (input : List ℕ) (threads : ℕ) (schedule : List ℕ) (record_it : Bool) (output : List ℕ) : Type 0 where
  pub image : Image
  pub log : Log
  pub program : IsProgram input image
  pub legal : IsSchedule image threads schedule
  pub recorded : IsRecord image threads schedule log
  pub output_is : output ≡ written record_it image log

-- the input is a program, and the file is the run file of its journal over the schedule, which is read as that run: what
-- `step --record` writes
pub record IsRecorded (input : List ℕ) (threads : ℕ) (schedule file : List ℕ) : Type 0 where
  pub image : Image
  pub log : Log
  pub program : IsProgram input image
  pub legal : IsSchedule image threads schedule
  pub recorded : IsRecord image threads schedule log
  pub spelled : SpellsRun image log file

-- the input is a program that may run over the schedule
pub record IsSteppable (input : List ℕ) (threads : ℕ) (schedule : List ℕ) : Type 0 where
  pub image : Image
  pub program : IsProgram input image
  pub legal : IsSchedule image threads schedule

-- What is wrong with a schedule, as its steps would meet it one by one: the program cannot start so many threads, a step
-- is of a thread that is not there, or a journal has no room for so many steps.
abbrev pub IsFaultySchedule : Image → ℕ → List ℕ → JournalFault → Type 0
IsFaultySchedule image threads schedule journal.BadCount = IsThreadCount image threads → ⊥
IsFaultySchedule image threads schedule journal.BadThread = IsThreadCount image threads × (AllThere threads (take most_events schedule) → ⊥)
IsFaultySchedule image threads schedule journal.JournalFull = IsThreadCount image threads × AllThere threads (take most_events schedule) × (most_events < length schedule)
IsFaultySchedule image threads schedule fault = ⊥

-- why a program is not run: its schedule is faulty; only where it is not may memory be wanted
abbrev pub IsRefusedRun : Image → ℕ → List ℕ → JournalFault → Type 0
IsRefusedRun image threads schedule journal.OutOfMemory = IsSchedule image threads schedule
IsRefusedRun image threads schedule fault = IsFaultySchedule image threads schedule fault

-- the input is a program that is not run
pub record HasRefusedRun (input : List ℕ) (threads : ℕ) (schedule : List ℕ) (cause : JournalFault) : Type 0 where
  pub image : Image
  pub program : IsProgram input image
  pub refused : IsRefusedRun image threads schedule cause
