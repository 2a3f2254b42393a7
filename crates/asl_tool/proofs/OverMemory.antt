-- What words come to over memory is what the program does with a reader and a writer over memory.
use Rattle.std.proofs.Common.{◌≡◌, ℕ, List, [], Option, None, Some, inl, inr, refl, ap}
use Rattle.asl_command_line.specs.declared.command.Command.{Command}
use Rattle.asl_command_line.specs.declared.command.Invocation.{Invocation}
use Rattle.asl_command_line.specs.declared.command.Invocation.TheVariants.{Alone, Run, Help, Version, WrongUsage}
use Rattle.asl_tool.specs.declared.streams.ReadFault.TheVariants as read
use Rattle.asl_tool.specs.declared.tool_fault.ToolFault.TheVariants as fault
use Rattle.asl_tool.specs.declared.endings.ending.Ending.{Ending}
use Rattle.asl_tool.specs.declared.endings.ending.Ending.TheVariants as ending
use Rattle.asl_tool.specs.Ending.{ending_status, ending_text}
use Rattle.asl_tool.specs.Memory.{IsCommandEnding, IsEnding, EndsOver}
use Rattle.asl_command_line.proofs.RunAlone.{run_alone}
use Rattle.asl_tool.specs.Tool.{AsksForWork, EndsAlone, IsAsked, IsCommandStatus, IsNoWork, IsStatus, of_command}

command_status : (room : Option ℕ) (command : Command) (input output : List ℕ) (e : Ending) → IsCommandEnding command input output e
    → IsCommandStatus (output ≡ []) (λ text. ending_text e ≡ text) (Some input) room (Some []) (Some output) (of_command command) (ending_status e)
command_status room command input output ending.Done h =
    inl (refl, record { input = input; output = output; whole = (refl, h.0); made = (h.1, h.2); written = refl })
command_status room command input output (ending.Refused (fault.Read read.TooLong)) h = inr (refl, (fault.Read read.TooLong, (h.1, h.0), refl))
command_status room command input output (ending.Refused (fault.Read read.Read)) h = absurd h.1
command_status room command input output (ending.Refused (fault.Read read.OutOfMemory)) h = absurd h.1
command_status room command input output (ending.Refused (fault.Command cause)) h =
    inr (refl, (fault.Command cause, record { input = input; whole = (refl, h.1.0); refused = h.1.1; nothing = h.0 }, refl))
command_status room command input output (ending.Refused (fault.Write cause)) h = absurd h.1
command_status room command input output (ending.Refused fault.OutOfMemory) h = absurd h.1
command_status room command input output (ending.WrongUsage text) h = absurd h

no_work : (o : Option Invocation) (input output : List ℕ) (e : Ending) → IsEnding o input output e → IsNoWork o
no_work (Some (Alone command)) input output e h = tt
no_work (Some (Run team)) input output e h = h
no_work (Some (Help page)) input output e h = tt
no_work (Some Version) input output e h = tt
no_work (Some (WrongUsage text)) input output e h = tt
no_work None input output e h = tt

status_over : (room : Option ℕ) (o : Option Invocation) (input output : List ℕ) (e : Ending) → IsEnding o input output e
    → IsStatus (Unit {0}) (output ≡ []) (λ text. ending_text e ≡ text) (Some input) room (Some []) (Some output) (ending_status e) o
status_over room (Some (Alone command)) input output e h = command_status room command input output e h
status_over room (Some (Run team)) input output e h = absurd h
status_over room (Some (Help page)) input output e h = (tt, inl (ap ending_status h.0, h.1))
status_over room (Some Version) input output e h = (tt, inl (ap ending_status h.0, h.1))
status_over room (Some (WrongUsage text)) input output e h = (tt, (h.1, (ap ending_status h.0, ap ending_text h.0)))
status_over room None input output e h = (tt, (h.1, (ap ending_status h.0, ap ending_text h.0)))

pub over_is_alone : (room : Option ℕ) (words : List (List ℕ)) (input output : List ℕ) (e : Ending) → EndsOver words input output e
    → EndsAlone words (Unit {0}) (output ≡ []) (λ text. ending_text e ≡ text) (Some input) room (Some []) (Some output) (ending_status e)
over_is_alone room words input output e h = record {
  invocation = h.invocation;
  waits_not = no_work h.invocation input output e h.is_ending;
  is_asked = h.is_asked;
  is_status = status_over room h.invocation input output e h.is_ending;
}

-- `run` is not done
run_ends : (words : List (List ℕ)) (work : AsksForWork words) (o : Option Invocation) (input output : List ℕ) (e : Ending) → IsAsked words o → IsEnding o input output e
    → (e ≡ ending.Refused fault.OutOfMemory) × (output ≡ [])
run_ends words work (Some (Alone command)) input output e asks h = absurd (run_alone words work.0 (Alone command) work.1 asks)
run_ends words work (Some (Run team)) input output e asks h = absurd h
run_ends words work (Some (Help page)) input output e asks h = absurd (run_alone words work.0 (Help page) work.1 asks)
run_ends words work (Some Version) input output e asks h = absurd (run_alone words work.0 Version work.1 asks)
run_ends words work (Some (WrongUsage text)) input output e asks h = absurd (run_alone words work.0 (WrongUsage text) work.1 asks)
run_ends words work None input output e asks h = h

pub run_is_not_done : (words : List (List ℕ)) (input output : List ℕ) (e : Ending) → AsksForWork words → EndsOver words input output e
    → (e ≡ ending.Refused fault.OutOfMemory) × (output ≡ [])
run_is_not_done words input output e work h = run_ends words work h.invocation input output e h.is_asked h.is_ending
