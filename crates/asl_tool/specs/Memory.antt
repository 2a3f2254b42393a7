-- What words come to over memory, where the input is there and the output is kept (docs/EMBEDDING.md, "The commands from C"). No device can
-- fail there: no refusal is a read or a write that failed.
use Rattle.std.specs.Prelude.{◌≡◌, ◌<◌, ◌≤◌, ℕ, List, [], Option, None, Some, length}
use Rattle.asl_command_line.specs.declared.command.Command.{Command}
use Rattle.asl_command_line.specs.declared.command.Invocation.{Invocation}
use Rattle.asl_command_line.specs.declared.command.Invocation.TheVariants.{Alone, Run, Help, Version, WrongUsage}
use Rattle.asl_tool.specs.declared.streams.ReadFault.TheVariants as read
use Rattle.asl_tool.specs.declared.tool_fault.ToolFault.{ToolFault}
use Rattle.asl_tool.specs.declared.tool_fault.ToolFault.TheVariants as fault
use Rattle.asl_tool.specs.declared.endings.ending.Ending.{Ending}
use Rattle.asl_tool.specs.declared.endings.ending.Ending.TheVariants as ending
use Rattle.asl_tool.specs.Streams.{most_input}
use Rattle.asl_tool.specs.Command.{IsOutput, IsRunFile, IsRefusedCommand}
use Rattle.asl_tool.specs.Tool.{IsAsked, version_text}

-- why a command refuses an input that is there: it is longer than an input may be, or for the command's own reason
abbrev pub IsRefusedInput : Command → List ℕ → ToolFault → Type 0
IsRefusedInput command input (fault.Read read.TooLong) = most_input < length input
IsRefusedInput command input (fault.Command cause) = (length input ≤ most_input) × IsRefusedCommand command input cause
IsRefusedInput command input _ = ⊥

-- how a command ends, with its output: the whole, or nothing where it refuses the input
abbrev pub IsCommandEnding : Command → List ℕ → List ℕ → Ending → Type 0
IsCommandEnding command input output ending.Done =
    (length input ≤ most_input) × IsOutput command input output × IsRunFile command input output
IsCommandEnding command input output (ending.Refused f) = (output ≡ []) × IsRefusedInput command input f
IsCommandEnding command input output (ending.WrongUsage text) = ⊥

-- how words end that ask for this, but not for `run`; None where there was no memory to judge them
abbrev pub IsEnding : Option Invocation → List ℕ → List ℕ → Ending → Type 0
IsEnding (Some (Alone command)) input output e = IsCommandEnding command input output e
IsEnding (Some (Run team)) input output e = ⊥
IsEnding (Some (Help page)) input output e = (e ≡ ending.Done) × (output ≡ page.now)
IsEnding (Some Version) input output e = (e ≡ ending.Done) × (output ≡ version_text)
IsEnding (Some (WrongUsage text)) input output e = (e ≡ ending.WrongUsage text) × (output ≡ [])
IsEnding None input output e = (e ≡ ending.Refused fault.OutOfMemory) × (output ≡ [])

-- the words end so over the input, with this output
pub record EndsOver (words : List (List ℕ)) (input output : List ℕ) (e : Ending) : Type 0 where
  pub invocation : Option Invocation
  pub is_asked : IsAsked words invocation
  pub is_ending : IsEnding invocation input output e
