-- Why a text is not a program, and what a text's one outcome is (docs/FORMATS.md).
use Rattle.std.specs.Prelude.{◌≢◌, ℕ, List, Result, Ok, Err}
use Rattle.asl_code.specs.declared.image.Image.{Image}
use Rattle.asl_code.specs.Verified.{IsVerified, IsAnswer}
use Rattle.asl_assembler.specs.Words.{lines_of}
use Rattle.asl_assembler.specs.Text.{Spells, IsBadLine}
use Rattle.asl_assembler.specs.declared.assembly.AsmFault.{AsmFault}
use Rattle.asl_assembler.specs.declared.assembly.AsmFault.TheVariants.{Line, Verify, OutOfMemory}

-- The text is refused with this error: its first line that is not as its place asks, or, where all lines are right, the
-- first rule that the image which they spell breaks. Running out of memory hides no line: the text spells an image
abbrev pub IsFault : List ℕ → AsmFault → Type 0
IsFault text (Line number) = IsBadLine (lines_of text) number
IsFault text (Verify cause) = (image : Image) × Spells text image × IsAnswer image cause
IsFault text OutOfMemory = (image : Image) × Spells text image

-- The text spells this image, which is a program's
pub record IsProgramText (text : List ℕ) (image : Image) : Type 0 where
  pub spelled : Spells text image
  pub verified : IsVerified image

-- The outcome of the text, where memory is there: the program that it is assembled as, or the error that it is refused
-- with
abbrev pub IsOutcome : List ℕ → Result Image AsmFault → Type 0
IsOutcome text (Ok image) = IsProgramText text image
IsOutcome text (Err fault) = IsFault text fault × (fault ≢ OutOfMemory)
