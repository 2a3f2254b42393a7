-- The one outcome of a command for an input, where memory is there (docs/CLI.md, "Refusals").
use Rattle.std.specs.Prelude.{ℕ, List, Result, Ok, Err}
use Rattle.asl_assembler.specs.declared.assembly.AsmFault.TheVariants as asm
use Rattle.asl_loader.specs.declared.fault.LoadFault.TheVariants as load
use Rattle.asl_syntax.specs.declared.fault.SyntaxFault.TheVariants as syntax
use Rattle.asl_emitter.specs.declared.fault.InferFault.TheVariants as infer
use Rattle.asl_lower.specs.declared.fault.LowerFault.TheVariants as lower
use Rattle.asl_points_to.specs.declared.fault.ClassesFault.TheVariants as classes
use Rattle.asl_map.specs.declared.fault.MapFault.TheVariants as map
use Rattle.asl_check.specs.declared.fault.CheckFault.TheVariants as check
use Rattle.asl_journal.specs.declared.fault.JournalFault.TheVariants as journal
use Rattle.asl_journal.specs.declared.run_file.FileFault.TheVariants as file
use Rattle.asl_runner.specs.declared.fault.RunFault.TheVariants as run
use Rattle.asl_tool.specs.declared.input_program.ProgramFault.TheVariants as program
use Rattle.asl_command_line.specs.declared.command.Command.{Command}
use Rattle.asl_command_line.specs.declared.command.Command.TheVariants as command
use Rattle.asl_tool.specs.declared.command_fault.CommandFault.{CommandFault}
use Rattle.asl_tool.specs.declared.command_fault.CommandFault.TheVariants as fault
use Rattle.asl_tool.specs.Command.{IsOutput, IsRefusedCommand}

-- memory ran out, wherever: that is no outcome of the input
abbrev pub IsWantOfMemory : CommandFault → Type 0
IsWantOfMemory (fault.Program (program.Text asm.OutOfMemory)) = Unit {0}
IsWantOfMemory (fault.Program (program.Image load.OutOfMemory)) = Unit {0}
IsWantOfMemory (fault.Source syntax.OutOfMemory) = Unit {0}
IsWantOfMemory (fault.Infer infer.OutOfMemory) = Unit {0}
IsWantOfMemory (fault.Check (check.Infer infer.OutOfMemory)) = Unit {0}
IsWantOfMemory (fault.Map (map.Source syntax.OutOfMemory)) = Unit {0}
IsWantOfMemory (fault.Map (map.Lower lower.OutOfMemory)) = Unit {0}
IsWantOfMemory (fault.Map (map.Classes classes.OutOfMemory)) = Unit {0}
IsWantOfMemory (fault.Map map.OutOfMemory) = Unit {0}
IsWantOfMemory (fault.File file.OutOfMemory) = Unit {0}
IsWantOfMemory (fault.Journal journal.OutOfMemory) = Unit {0}
IsWantOfMemory (fault.Run run.OutOfMemory) = Unit {0}
IsWantOfMemory fault.OutOfMemory = Unit {0}
IsWantOfMemory f = ⊥

-- the command's output for the input, or the refusal that the input meets
abbrev pub IsOutcome : Command → List ℕ → Result (List ℕ) CommandFault → Type 0
IsOutcome command input (Ok output) = IsOutput command input output
IsOutcome command input (Err f) = IsRefusedCommand command input f × (IsWantOfMemory f → ⊥)

-- the input alone settles the command's outcome: not that of `compile`, of `c` and of `check`, which name any one of the regions that need
-- too many locks; of `map`, `explain`, `lists` and `diagnose` it is not said
abbrev pub IsSettled : Command → Type 0
IsSettled (command.Compile k_limit as_text) = ⊥
IsSettled (command.Check k_limit all) = ⊥
IsSettled command.Map = ⊥
IsSettled (command.Explain k_limit all classes) = ⊥
IsSettled (command.Lists k_limit entries) = ⊥
IsSettled (command.Diagnose assembly k_limit all) = ⊥
IsSettled (command.PrintC k_limit checks entries externs) = ⊥
IsSettled c = Unit {0}
