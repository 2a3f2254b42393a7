-- What the command `compile` answers (docs/ANALYSIS.md, "The inferred image"; docs/SOURCE.md).
use Rattle.std.specs.Prelude.{◌≡◌, ℕ, Bool, true, false, List}
use Rattle.asl_code.specs.declared.image.Image.{Image}
use Rattle.asl_code.specs.Verified.{IsVerified}
use Rattle.asl_syntax.specs.Fault as syntax
use Rattle.asl_emitter.specs.Sources.{HasRefusedTree}
use Rattle.asl_soundness.specs.Safe.{NeverFaultsForLocks}
use Rattle.asl_atomicity.specs.Serial.{HasSerialRuns}
use Rattle.asl_atomicity.specs.Renamed.{HasSerialRunsUpTo}
use Rattle.asl_compile.specs.Compiled.{Compiles}
use Rattle.asl_assembler.specs.Canonical.{canonical_text}
use Rattle.asl_loader.specs.Bytes.{SpellsImage}
use Rattle.asl_tool.specs.declared.command_fault.CommandFault.{CommandFault}
use Rattle.asl_tool.specs.declared.command_fault.CommandFault.TheVariants as fault

-- the source is compiled to this image, with paths of at most so many operations; no run of the image faults for a missing lock,
-- and its sections are atomic
pub record IsProgramFor (source : List ℕ) (k_limit : ℕ) (image : Image) : Type 0 where
  pub compiled : Compiles source k_limit image
  pub safe : NeverFaultsForLocks image
  pub atomic : (count : ℕ) → HasSerialRuns image count
  pub atomic_up_to_numbers : (count : ℕ) → HasSerialRunsUpTo image count

-- what is written of a program: its image, or its canonical text
abbrev pub IsProgramWritten : Bool → Image → List ℕ → Type 0
IsProgramWritten false image output = IsVerified image × SpellsImage image output
IsProgramWritten true image output = IsVerified image × (output ≡ canonical_text image)

-- the output is what is written of the program that is inferred for the source
pub record IsCompiled (source : List ℕ) (k_limit : ℕ) (as_text : Bool) (output : List ℕ) : Type 0 where
  pub image : Image
  pub program : IsProgramFor source k_limit image
  pub written : IsProgramWritten as_text image output

-- what each refusal of `compile` says of the source; lack of memory for the output comes only where a program is inferred for
-- the source
abbrev pub IsRefusedSource : List ℕ → ℕ → CommandFault → Type 0
IsRefusedSource source k_limit (fault.Source cause) = syntax.IsFault source cause
IsRefusedSource source k_limit (fault.Infer cause) = HasRefusedTree source k_limit cause
IsRefusedSource source k_limit fault.OutOfMemory = (image : Image) × IsProgramFor source k_limit image
IsRefusedSource source k_limit f = ⊥
