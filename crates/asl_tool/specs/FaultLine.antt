-- The line that standard error gets of a fault, or its lines (docs/CLI.md, "Refusals").
use Rattle.std.specs.Prelude.{ℕ, List, ◌++◌, codes}
use Rattle.asl_refusal_text.specs.FaultText.{asm_text, load_text, syntax_text, infer_text, check_text, map_text, file_text, journal_text, run_text}
use Rattle.asl_tool.specs.declared.streams.ReadFault.{ReadFault}
use Rattle.asl_tool.specs.declared.streams.ReadFault.TheVariants as read
use Rattle.asl_tool.specs.declared.input_program.ProgramFault.{ProgramFault}
use Rattle.asl_tool.specs.declared.input_program.ProgramFault.TheVariants as program
use Rattle.asl_tool.specs.declared.command_fault.CommandFault.{CommandFault}
use Rattle.asl_tool.specs.declared.command_fault.CommandFault.TheVariants as command
use Rattle.asl_tool.specs.declared.tool_fault.ToolFault.{ToolFault}
use Rattle.asl_tool.specs.declared.tool_fault.ToolFault.TheVariants as fault

-- of reading the input
abbrev pub read_text : ReadFault → List ℕ
read_text read.Read = codes "Read"
read_text read.TooLong = codes "TooLong"
read_text read.OutOfMemory = codes "OutOfMemory"

-- of a program
abbrev pub program_text : ProgramFault → List ℕ
program_text (program.Text cause) = asm_text cause
program_text (program.Image cause) = load_text cause

-- of a command
abbrev pub command_text : CommandFault → List ℕ
command_text (command.Program cause) = program_text cause
command_text (command.Source cause) = syntax_text cause
command_text (command.Infer cause) = infer_text cause
command_text command.NoProgram = codes "NoProgram"
command_text (command.Check cause) = check_text cause
command_text (command.Missing first lines) = check_text first
command_text (command.Map cause) = map_text cause
command_text (command.File cause) = file_text cause
command_text (command.Journal cause) = journal_text cause
command_text (command.Run cause) = run_text cause
command_text command.OutOfMemory = codes "OutOfMemory"

-- of a run of the program
abbrev pub fault_text : ToolFault → List ℕ
fault_text (fault.Read cause) = read_text cause
fault_text (fault.Command cause) = command_text cause
fault_text (fault.Write cause) = codes "Write"
fault_text fault.OutOfMemory = codes "OutOfMemory"

-- its line
abbrev pub fault_line : ToolFault → List ℕ
fault_line f = codes "asl: " ++ fault_text f ++ codes "\n"

-- what is told of it: its line, or the lines that it carries
abbrev pub fault_lines : ToolFault → List ℕ
fault_lines (fault.Command (command.Missing first lines)) = lines.items
fault_lines f = fault_line f
