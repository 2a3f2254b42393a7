-- Which program an input is (docs/FORMATS.md), and what is wrong with one that is none.
use Rattle.std.specs.Prelude.{◌≡◌, ℕ, List, take, codes}
use Rattle.asl_code.specs.declared.image.Image.{Image}
use Rattle.asl_assembler.specs.Faults.{IsProgramText}
use Rattle.asl_assembler.specs.Faults as text
use Rattle.asl_loader.specs.Faults.{IsProgramImage}
use Rattle.asl_loader.specs.Faults as bytes
use Rattle.asl_tool.specs.declared.input_program.ProgramFault.{ProgramFault}
use Rattle.asl_tool.specs.declared.input_program.ProgramFault.TheVariants as fault

-- the input begins with the letters of an image
abbrev pub BeginsAsImage : List ℕ → Type 0
BeginsAsImage input = take 4 input ≡ codes "ASLM"

-- the input is this program: an image where it begins as one, else a text
pub record IsProgram (input : List ℕ) (image : Image) : Type 0 where
  pub as_image : BeginsAsImage input → IsProgramImage input image
  pub as_text : (BeginsAsImage input → ⊥) → IsProgramText input image

-- what is wrong with an input: with its image where it begins as one, else with its text
abbrev pub IsNoProgram : List ℕ → ProgramFault → Type 0
IsNoProgram input (fault.Image cause) = BeginsAsImage input × bytes.IsFault input cause
IsNoProgram input (fault.Text cause) = (BeginsAsImage input → ⊥) × text.IsFault input cause
