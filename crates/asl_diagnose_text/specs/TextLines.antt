-- Machinery of the proofs, not of the promise: how much a reader of the lines of an assembly text has left, which line has the
-- instruction of a number, and which may break a rule.
use Rattle.std.specs.Prelude.{◌≡◌, ◌<◌, ℕ, suc, ◌-◌, ◌==◌, ◌&&◌, nat_le, List, [], ◌∷◌, length, Option, Some, None, if◌then◌else◌}
use Rattle.asl_assembler.specs.Words.{lines_of}
use Rattle.asl_code.specs.declared.fault.VerifyFault.{VerifyFault}
use Rattle.asl_diagnose_text.specs.declared.text_lines.TextLines as rows
use Rattle.asl_diagnose_text.specs.declared.text_lines.TextLine as row
use Rattle.asl_diagnose_text.specs.Instructions.{breaks, is_instruction}

-- how many bytes of the text are left
abbrev pub rows_left : rows.TextLines → ℕ
rows_left r = length r.rest.now

-- the lines that are left
abbrev pub lines_left : rows.TextLines → List (List ℕ)
lines_left r = lines_of r.rest.now

-- the next line is taken, if there is one
abbrev pub IsNextLine : rows.TextLines → Option row.TextLine → rows.TextLines → Type 0
IsNextLine old None new = lines_left old ≡ []
IsNextLine old (Some r) new = (lines_left old ≡ r.line.now ∷ lines_left new) × (rows_left new < rows_left old)

-- the number of the line of the instruction that has so many before it, where the first of the lines has this number
abbrev pub row_of : ℕ → ℕ → List (List ℕ) → Option ℕ
row_of pc number [] = None
row_of pc number (l ∷ ls) =
    if is_instruction l then (if pc == 0 then Some number else row_of (pc - 1) (suc number) ls) else row_of pc (suc number) ls

-- the number of the first line, from a number on, that may break the rule, where the first of the lines has this number
abbrev pub breaking_from : VerifyFault → ℕ → ℕ → List (List ℕ) → Option ℕ
breaking_from cause from number [] = None
breaking_from cause from number (l ∷ ls) =
    if nat_le from number && breaks cause l then Some number else breaking_from cause from (suc number) ls
