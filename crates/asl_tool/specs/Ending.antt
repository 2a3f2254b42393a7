-- The status of a run of the program, and what it says on standard error, by how it ends (docs/CLI.md, "Status").
use Rattle.std.specs.Prelude.{ℕ, List, []}
use Rattle.asl_tool.specs.declared.endings.ending.Ending.{Ending}
use Rattle.asl_tool.specs.declared.endings.ending.Ending.TheVariants.{Done, Refused, WrongUsage}
use Rattle.asl_tool.specs.FaultLine.{fault_lines}

-- the status
abbrev pub ending_status : Ending → ℕ
ending_status Done = 0
ending_status (Refused fault) = 1
ending_status (WrongUsage text) = 2

-- what is said: nothing, the line or the lines of the refusal, or the text that says why the words are no legal use
abbrev pub ending_text : Ending → List ℕ
ending_text Done = []
ending_text (Refused fault) = fault_lines fault
ending_text (WrongUsage text) = text.bytes.items
