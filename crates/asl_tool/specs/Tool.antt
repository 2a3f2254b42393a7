-- What a run of the program leaves in the writer, and on standard error, by what the words ask for and what the reader had
-- (docs/CLI.md, "Refusals"). `unread`, `unwritten` and `tells` stand for what the contracts put there. The first two: that the
-- reader, or the writer, is the very value that it was at first. That is more than that its bytes are the same: of a writer that
-- may be any one no call is known to keep the value, not even a flush. The third: that standard error got this text, or, where its
-- writer is not known to have room for it, a first part of it. `room` is how many bytes the writer takes for sure, where that is known.
use Rattle.std.specs.Prelude.{◌≡◌, ◌≤◌, ◌⊎◌, ℕ, List, Option, None, Some, IfSome, codes, length}
use Rattle.std.specs.Io.KnownBytes.{Appends}
use Rattle.asl_command_line.specs.declared.command.Command.{Command}
use Rattle.asl_command_line.specs.declared.command.RunArguments.{RunArguments}
use Rattle.asl_command_line.specs.declared.command.Invocation.{Invocation}
use Rattle.asl_command_line.specs.declared.command.Invocation.TheVariants.{Alone, Run, Help, Version, WrongUsage}
use Rattle.asl_command_line.specs.Words.{AsksFor}
use Rattle.asl_tool.specs.declared.command_fault.CommandFault.{CommandFault}
use Rattle.asl_tool.specs.declared.streams.WriteFault.{WriteFault}
use Rattle.asl_tool.specs.declared.tool_fault.ToolFault.{ToolFault}
use Rattle.asl_tool.specs.declared.tool_fault.ToolFault.TheVariants as fault
use Rattle.asl_tool.specs.FaultLine.{fault_line, fault_lines}
use Rattle.asl_tool.specs.Streams.{AppendsPart, IsReadFault, LacksRoom, most_input}
use Rattle.asl_tool.specs.Command.{IsOutput, IsRunFile, IsRefusedCommand}
use Rattle.asl_tool.specs.Work.{IsWorkOutput, IsRefusedWork}

-- what a command makes of an input, and why it may refuse to
pub record Promise : Type 1 where
  pub output : List ℕ → List ℕ → Type 0
  pub refusal : List ℕ → CommandFault → Type 0

-- the promise of a command that waits for nobody
abbrev pub of_command : Command → Promise
of_command command = record { output = λ input output. IsOutput command input output × IsRunFile command input output; refusal = IsRefusedCommand command }

-- the promise of the command `run`
abbrev pub of_team : RunArguments → Promise
of_team team = record { output = IsWorkOutput team; refusal = IsRefusedWork team }

-- the input is all that the reader had, where that is known, and no longer than an input may be
abbrev pub IsWhole : Option (List ℕ) → List ℕ → Type 0
IsWhole known input = IfSome known (λ bytes. input ≡ bytes) × (length input ≤ most_input)

-- the writer got the command's output for the input
pub record WritesOutput (known old new : Option (List ℕ)) (promise : Promise) : Type 0 where
  pub input : List ℕ
  pub output : List ℕ
  pub whole : IsWhole known input
  pub made : promise.output input output
  pub written : Appends old new output

-- the writer got a first part of the command's output for the input, for all of which it is not known to have room
pub record WritesPart (known : Option (List ℕ)) (room : Option ℕ) (old new : Option (List ℕ)) (promise : Promise) : Type 0 where
  pub input : List ℕ
  pub output : List ℕ
  pub whole : IsWhole known input
  pub made : promise.output input output
  pub full : LacksRoom room output
  pub part : AppendsPart old new output

-- the input is refused, and the writer is as it was
pub record RefusesInput (unwritten : Type 0) (known : Option (List ℕ)) (promise : Promise) (cause : CommandFault) : Type 0 where
  pub input : List ℕ
  pub whole : IsWhole known input
  pub refused : promise.refusal input cause
  pub nothing : unwritten

-- what each fault leaves: all but one of the writer leave the writer as it was. Lack of memory for the words is no fault of a
-- command
abbrev pub Refuses : Type 0 → Option (List ℕ) → Option ℕ → Option (List ℕ) → Option (List ℕ) → Promise → ToolFault → Type 0
Refuses unwritten known room old new promise (fault.Read cause) = IsReadFault known cause × unwritten
Refuses unwritten known room old new promise (fault.Command cause) = RefusesInput unwritten known promise cause
Refuses unwritten known room old new promise (fault.Write cause) = WritesPart known room old new promise
Refuses unwritten known room old new promise fault.OutOfMemory = ⊥

-- the status of a command, with what the writer got: 0 with the output, 1 with a refusal, whose line or lines standard error gets
abbrev pub IsCommandStatus : Type 0 → (List ℕ → Type 0) → Option (List ℕ) → Option ℕ → Option (List ℕ) → Option (List ℕ) → Promise → ℕ → Type 0
IsCommandStatus unwritten tells known room old new promise status =
    ((status ≡ 0) × WritesOutput known old new promise)
    ⊎ ((status ≡ 1) × ((f : ToolFault) × Refuses unwritten known room old new promise f × tells (fault_lines f)))

-- the status of a text that is shown: 0 with the text, 1 with a first part of it, where the writer is not known to have room for all, and
-- the line that the output failed
abbrev pub IsTextStatus : (List ℕ → Type 0) → Option ℕ → Option (List ℕ) → Option (List ℕ) → List ℕ → ℕ → Type 0
IsTextStatus tells room old new text status =
    ((status ≡ 0) × Appends old new text)
    ⊎ ((status ≡ 1) × ((f : WriteFault) × LacksRoom room text × AppendsPart old new text × tells (fault_line (fault.Write f))))

-- which version of the program this is, and in which logic it is proved
abbrev pub version_text : List ℕ
version_text = codes "asl 2, logic dac8208d650f15bf\n"

-- what the words ask for, or that there was no memory to judge them
abbrev pub IsAsked : List (List ℕ) → Option Invocation → Type 0
IsAsked words (Some invocation) = AsksFor words invocation
IsAsked words None = Unit {0}

-- the status of what was asked, with what the writer got, and what standard error got: 2 is for wrong usage alone, with its text.
-- Unless a command was asked for, the reader is as it was (`unread`); where there is nothing to write, the writer is as it was
-- (`unwritten`)
abbrev pub IsStatus : Type 0 → Type 0 → (List ℕ → Type 0) → Option (List ℕ) → Option ℕ → Option (List ℕ) → Option (List ℕ) → ℕ → Option Invocation → Type 0
IsStatus unread unwritten tells known room old new status (Some (Alone command)) = IsCommandStatus unwritten tells known room old new (of_command command) status
IsStatus unread unwritten tells known room old new status (Some (Run team)) = IsCommandStatus unwritten tells known room old new (of_team team) status
IsStatus unread unwritten tells known room old new status (Some (Help page)) = unread × IsTextStatus tells room old new page.now status
IsStatus unread unwritten tells known room old new status (Some Version) = unread × IsTextStatus tells room old new version_text status
IsStatus unread unwritten tells known room old new status (Some (WrongUsage text)) = unread × (unwritten × ((status ≡ 2) × tells text.bytes.items))
IsStatus unread unwritten tells known room old new status None = unread × (unwritten × ((status ≡ 1) × tells (fault_line fault.OutOfMemory)))

-- the status is that of what the words ask for, and so is what standard error gets
pub record EndsWith (words : List (List ℕ)) (unread unwritten : Type 0) (tells : List ℕ → Type 0) (known : Option (List ℕ)) (room : Option ℕ) (old new : Option (List ℕ)) (status : ℕ) : Type 0 where
  pub invocation : Option Invocation
  pub is_asked : IsAsked words invocation
  pub is_status : IsStatus unread unwritten tells known room old new status invocation

-- not the command `run`
abbrev pub IsNoWork : Option Invocation → Type 0
IsNoWork (Some (Run team)) = ⊥
IsNoWork asked = Unit {0}

-- the same where the words do not ask for `run`
pub record EndsAlone (words : List (List ℕ)) (unread unwritten : Type 0) (tells : List ℕ → Type 0) (known : Option (List ℕ)) (room : Option ℕ) (old new : Option (List ℕ)) (status : ℕ) : Type 0 where
  pub invocation : Option Invocation
  pub waits_not : IsNoWork invocation
  pub is_asked : IsAsked words invocation
  pub is_status : IsStatus unread unwritten tells known room old new status invocation

-- the words ask for `run`
abbrev pub AsksForWork : List (List ℕ) → Type 0
AsksForWork words = (team : RunArguments) × AsksFor words (Run team)
