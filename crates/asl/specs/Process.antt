-- How a process ends (docs/CLI.md, "Status").
use Rattle.std.specs.Prelude.{◌≡◌, ◌⊎◌, ℕ, List, Option, codes}
use Rattle.asl_tool.specs.declared.tool_fault.ToolFault.TheVariants.{OutOfMemory}
use Rattle.asl_tool.specs.FaultLine.{fault_line}
use Rattle.asl_tool.specs.Tool.{EndsWith}
use Rattle.asl.specs.CommandLine.{AreGiven, AreTexts, HasNoText}

-- what is said of words of which one is not UTF-8
abbrev pub no_text : List ℕ
no_text = codes "error: a word of the command line is not UTF-8\n\nFor more information, try '--help'.\n"

-- the process ends as the tool does with the words after its name, all of them UTF-8; or one of these is not UTF-8; or memory ran out
-- for them. In the last two cases the streams that it reads and writes are the very values that they were. `tells` stands for what the
-- contracts put there: that standard error got this text, or, where its writer is not known to have room for it, a first part of it
abbrev pub EndsProcess : Option (List (List ℕ)) → Type 0 → Type 0 → (List ℕ → Type 0) → Option (List ℕ) → Option ℕ → Option (List ℕ) → Option (List ℕ) → ℕ → Type 0
EndsProcess line unread unwritten tells known room old new status =
    ((words : List (List ℕ)) × AreGiven line words × AreTexts words × EndsWith words unread unwritten tells known room old new status)
    ⊎ (unread × unwritten × ((HasNoText line × (status ≡ 2) × tells no_text) ⊎ ((status ≡ 1) × tells (fault_line OutOfMemory))))
