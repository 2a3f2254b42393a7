-- Which program bytes are, and why they are none.
use Rattle.std.specs.Prelude.{◌≡◌, ◌⊎◌, ℕ, List, take, codes, Err}
use Rattle.asl_code.specs.declared.image.Image.{Image}
use Rattle.asl_assembler.specs.Faults.{IsProgramText}
use Rattle.asl_assembler.specs.declared.assembly.AsmFault.{AsmFault}
use Rattle.asl_assembler.specs.declared.assembly.AsmFault.TheVariants as asm
use Rattle.asl_assembler.specs.Faults as text
use Rattle.asl_loader.specs.Faults.{IsProgramImage}
use Rattle.asl_loader.specs.declared.fault.LoadFault.{LoadFault}
use Rattle.asl_loader.specs.declared.fault.LoadFault.TheVariants as load
use Rattle.asl_loader.specs.Faults as image

-- the bytes begin with the letters of an image
abbrev pub BeginsAsImage : List ℕ → Type 0
BeginsAsImage bytes = take 4 bytes ≡ codes "ASLM"

-- the bytes are this program: an image where they begin as one, else assembly text
pub record IsProgram (bytes : List ℕ) (program : Image) : Type 0 where
  pub as_image : BeginsAsImage bytes → IsProgramImage bytes program
  pub as_text : (BeginsAsImage bytes → ⊥) → IsProgramText bytes program

-- the outcome of the bytes is a fault other than lack of memory: as an image where they begin as one, else as a text
abbrev pub IsNoProgram : List ℕ → Type 0
IsNoProgram bytes =
    (BeginsAsImage bytes × ((fault : LoadFault) × image.IsOutcome bytes (Err fault))) ⊎ ((BeginsAsImage bytes → ⊥) × ((fault : AsmFault) × text.IsOutcome bytes (Err fault)))

-- lack of memory hides no other fault of the bytes than one that the verifier finds: they spell an image, of a program or not
abbrev pub IsUnread : List ℕ → Type 0
IsUnread bytes =
    (BeginsAsImage bytes × image.IsFault bytes load.OutOfMemory) ⊎ ((BeginsAsImage bytes → ⊥) × text.IsFault bytes asm.OutOfMemory)

-- 12: the bytes are no program; else 2: there was no memory to know whether they are one
abbrev pub WhyNotProgram : List ℕ → ℕ → Type 0
WhyNotProgram bytes status = ((status ≡ 12) × IsNoProgram bytes) ⊎ ((status ≡ 2) × IsUnread bytes)
