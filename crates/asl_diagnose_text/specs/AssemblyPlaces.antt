-- Where a fault of an assembly text is.
use Rattle.std.specs.Prelude.{◌≡◌, ℕ, ◌+◌, ◌≤◌, ◌⊎◌, List, length, MatchOption}
use Rattle.asl_assembler.specs.declared.assembly.AsmFault.{AsmFault}
use Rattle.asl_assembler.specs.declared.assembly.AsmFault.TheVariants as asm
use Rattle.asl_assembler.specs.Words.{lines_of}
use Rattle.asl_code.specs.declared.fault.VerifyFault.{VerifyFault}
use Rattle.asl_diagnose_text.specs.Position.{IsLineFront}
use Rattle.asl_diagnose_text.specs.Instructions.{instructions_in, pc_of, IsInstructionLine, IsBreakingLine, IsUnbroken}

-- where a wrong line of an assembly text is: its first byte that is no blank, and where the text ends too early, its end
abbrev pub IsLinePlace : List ℕ → ℕ → ℕ → Type 0
IsLinePlace text number at =
    IsLineFront text number at ⊎ ((number ≡ length (lines_of text) + 1) × (at ≡ length text))

-- where the instruction of a number is; or the text's end, where it has not so many
abbrev pub IsInstructionPlace : List ℕ → ℕ → ℕ → Type 0
IsInstructionPlace text pc at =
    ((number : ℕ) × IsInstructionLine (lines_of text) pc number × IsLineFront text number at)
    ⊎ ((instructions_in (lines_of text) ≤ pc) × (at ≡ length text))

-- where a line is by which the rule may be broken; or the text's end, where no line may break it
abbrev pub IsRulePlace : List ℕ → VerifyFault → ℕ → Type 0
IsRulePlace text cause at =
    ((number : ℕ) × IsBreakingLine (lines_of text) cause number × IsLineFront text number at)
    ⊎ (IsUnbroken (lines_of text) cause × (at ≡ length text))

-- the place of a fault: that of a wrong line; of the instruction that breaks a rule; and for a rule of the whole image that of a line by
-- which it may be broken
abbrev pub IsAssemblyPlace : List ℕ → AsmFault → ℕ → Type 0
IsAssemblyPlace text (asm.Line number) at = IsLinePlace text number at
IsAssemblyPlace text (asm.Verify cause) at = MatchOption (pc_of cause) (IsRulePlace text cause at) (λ pc. IsInstructionPlace text pc at)
IsAssemblyPlace text asm.OutOfMemory at = Unit {0}
