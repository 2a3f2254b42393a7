-- What each command makes of an input, and why it may refuse to (docs/CLI.md, "Refusals").
use Rattle.std.specs.Prelude.{◌≡◌, ℕ, Bool, true, false, List, Option, map as each, string_bytes}
use Rattle.asl_code.specs.declared.image.Image.{Image}
use Rattle.asl_assembler.specs.Canonical.{canonical_text}
use Rattle.asl_assembler.specs.Faults.{IsProgramText}
use Rattle.asl_assembler.specs.Faults as text
use Rattle.asl_loader.specs.Bytes.{SpellsImage}
use Rattle.asl_loader.specs.Faults.{IsProgramImage}
use Rattle.asl_loader.specs.Faults as bytes
use Rattle.asl_tool.specs.declared.input_program.ProgramFault.TheVariants as program
use Rattle.asl_command_line.specs.declared.command.Command.{Command}
use Rattle.asl_command_line.specs.declared.command.Command.TheVariants as command
use Rattle.asl_tool.specs.declared.command_fault.CommandFault.{CommandFault}
use Rattle.asl_tool.specs.declared.command_fault.CommandFault.TheVariants as fault
use Rattle.asl_tool.specs.Program.{IsNoProgram}
use Rattle.asl_class_text.specs.Classes.{IsClassText}
use Rattle.asl_explain.specs.Told.{IsText}
use Rattle.asl_explain.specs.Explained as explain
use Rattle.asl_explain.specs.declared.fault.ExplainFault.TheVariants as why
use Rattle.asl_lists.specs.Listed.{IsListed, IsRefusedLists}
use Rattle.asl_lists.specs.declared.fault.ListsFault.TheVariants as lists
use Rattle.asl_journal.specs.RunFile.{IsFileFault}
use Rattle.asl_map.specs.Mapped.{IsMapText}
use Rattle.asl_map.specs.Mapped as map
use Rattle.asl_tool.specs.C.{IsPrinted, IsRefusedPrinting}
use Rattle.asl_tool.specs.Check.{IsChecked, IsRefusedCheck}
use Rattle.asl_tool.specs.Compile.{IsCompiled, IsRefusedSource}
use Rattle.asl_tool.specs.Debug.{IsDebugged}
use Rattle.asl_tool.specs.Diagnose.{IsDiagnosed}
use Rattle.asl_tool.specs.Log.{IsLogged}
use Rattle.asl_tool.specs.Replay.{IsReplayed, HasRefusedReplay}
use Rattle.asl_tool.specs.Step.{IsRecorded, IsStepped, IsSteppable, HasRefusedRun}

-- the text is a program, and the bytes are its image
pub record IsAssembled (text bytes : List ℕ) : Type 0 where
  pub image : Image
  pub program : IsProgramText text image
  pub spelled : SpellsImage image bytes

-- the bytes are a program's image, and the text is its canonical one
pub record IsDisassembled (bytes text : List ℕ) : Type 0 where
  pub image : Image
  pub program : IsProgramImage bytes image
  pub canonical : text ≡ canonical_text image

-- the explanation of the source's lists, or the text of its classes
abbrev pub IsExplained : List ℕ → ℕ → Bool → Bool → List ℕ → Type 0
IsExplained input k_limit all false text = IsText input k_limit all text
IsExplained input k_limit all true text = IsClassText input all text

-- the output of each command for an input
abbrev pub IsOutput : Command → List ℕ → List ℕ → Type 0
IsOutput (command.Step threads schedule record_it) input output = IsStepped input threads schedule.items record_it output
IsOutput command.Assemble input image = IsAssembled input image
IsOutput command.Disassemble input text = IsDisassembled input text
IsOutput (command.Compile k_limit as_text) input output = IsCompiled input k_limit as_text output
IsOutput (command.Check k_limit all) input text = IsChecked input k_limit text
IsOutput command.Map input text = IsMapText input text
IsOutput (command.Explain k_limit all classes) input text = IsExplained input k_limit all classes text
IsOutput (command.Lists k_limit entries) input text = IsListed input k_limit (each string_bytes entries.items) text
IsOutput (command.Diagnose assembly k_limit all) input text = IsDiagnosed input assembly k_limit all text
IsOutput (command.PrintC k_limit checks entries externs) input text = IsPrinted input k_limit checks (each string_bytes entries.items) externs.items text
IsOutput command.Replay input text = IsReplayed input text
IsOutput (command.Log trace) input text = IsLogged input trace text
IsOutput (command.Debug words) input text = IsDebugged input words.items text

-- where a command records a run of the input, the output is its run file
abbrev pub IsRunFile : Command → List ℕ → List ℕ → Type 0
IsRunFile (command.Step threads schedule record_it) input output = record_it ≡ true → IsRecorded input threads schedule.items output
IsRunFile c input output = Unit {0}

-- what each refusal of `step` says of the input; lack of memory for the output comes only where the input is a program that
-- may run over the schedule
abbrev pub IsRefusedStep : List ℕ → ℕ → List ℕ → CommandFault → Type 0
IsRefusedStep input threads schedule (fault.Program cause) = IsNoProgram input cause
IsRefusedStep input threads schedule (fault.Journal cause) = HasRefusedRun input threads schedule cause
IsRefusedStep input threads schedule fault.OutOfMemory = IsSteppable input threads schedule
IsRefusedStep input threads schedule f = ⊥

-- what each refusal of `asm` says of the text; lack of memory for the image comes only where the text is a program
abbrev pub IsRefusedText : List ℕ → CommandFault → Type 0
IsRefusedText input (fault.Program (program.Text cause)) = text.IsFault input cause
IsRefusedText input fault.OutOfMemory = (image : Image) × IsProgramText input image
IsRefusedText input f = ⊥

-- what each refusal of `dis` says of the image; lack of memory for the text comes only where the bytes are a program's image
abbrev pub IsRefusedImage : List ℕ → CommandFault → Type 0
IsRefusedImage input (fault.Program (program.Image cause)) = bytes.IsFault input cause
IsRefusedImage input fault.OutOfMemory = (image : Image) × IsProgramImage input image
IsRefusedImage input f = ⊥

-- what each refusal of `map` says of the source
abbrev pub IsRefusedMap : List ℕ → CommandFault → Type 0
IsRefusedMap input (fault.Map cause) = map.IsRefusedMapping input cause
IsRefusedMap input f = ⊥

-- what each refusal of `explain` says of the source
abbrev pub IsRefusedExplain : List ℕ → ℕ → CommandFault → Type 0
IsRefusedExplain input k_limit (fault.Source cause) = explain.IsRefusedExplanation input k_limit (why.Source cause)
IsRefusedExplain input k_limit (fault.Infer cause) = explain.IsRefusedExplanation input k_limit (why.Infer cause)
IsRefusedExplain input k_limit f = ⊥

-- what each refusal of `lists` says of the source
abbrev pub IsRefusedListing : List ℕ → Option ℕ → List (List ℕ) → CommandFault → Type 0
IsRefusedListing input k_limit entries (fault.Source cause) = IsRefusedLists input k_limit entries (lists.Refused (why.Source cause))
IsRefusedListing input k_limit entries (fault.Infer cause) = IsRefusedLists input k_limit entries (lists.Refused (why.Infer cause))
IsRefusedListing input k_limit entries fault.OutOfMemory = IsRefusedLists input k_limit entries lists.OutOfMemory
IsRefusedListing input k_limit entries f = ⊥

-- `diagnose` refuses no input: memory may run out, and that is all
abbrev pub IsRefusedDiagnose : CommandFault → Type 0
IsRefusedDiagnose fault.OutOfMemory = Unit {0}
IsRefusedDiagnose f = ⊥

-- what each refusal of a run file's command says of the file: it is none, or its journal is none of its program; want of
-- memory is one of the two
abbrev pub IsRefusedReplay : List ℕ → CommandFault → Type 0
IsRefusedReplay input (fault.File cause) = IsFileFault input cause
IsRefusedReplay input (fault.Journal cause) = HasRefusedReplay input cause
IsRefusedReplay input f = ⊥

-- what each refusal of a command says of the input
abbrev pub IsRefusedCommand : Command → List ℕ → CommandFault → Type 0
IsRefusedCommand (command.Step threads schedule record_it) input f = IsRefusedStep input threads schedule.items f
IsRefusedCommand command.Assemble input f = IsRefusedText input f
IsRefusedCommand command.Disassemble input f = IsRefusedImage input f
IsRefusedCommand (command.Compile k_limit as_text) input f = IsRefusedSource input k_limit f
IsRefusedCommand (command.Check k_limit all) input f = IsRefusedCheck input k_limit all f
IsRefusedCommand command.Map input f = IsRefusedMap input f
IsRefusedCommand (command.Explain k_limit all classes) input f = IsRefusedExplain input k_limit f
IsRefusedCommand (command.Lists k_limit entries) input f = IsRefusedListing input k_limit (each string_bytes entries.items) f
IsRefusedCommand (command.Diagnose assembly k_limit all) input f = IsRefusedDiagnose f
IsRefusedCommand (command.PrintC k_limit checks entries externs) input f = IsRefusedPrinting input k_limit (each string_bytes entries.items) externs.items f
IsRefusedCommand command.Replay input f = IsRefusedReplay input f
IsRefusedCommand (command.Log trace) input f = IsRefusedReplay input f
IsRefusedCommand (command.Debug words) input f = IsRefusedReplay input f
