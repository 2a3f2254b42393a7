-- Which image a source is compiled to, and why another source has none: nothing here speaks of faults or of atomicity.
use Rattle.std.specs.Prelude.{ℕ, List}
use Rattle.asl_code.specs.declared.image.Image.{Image}
use Rattle.asl_syntax.specs.Tree.{Item}
use Rattle.asl_syntax.specs.Parsed.{Parses}
use Rattle.asl_syntax.specs.Fault as syntax
use Rattle.asl_emitter.specs.Inferred.{IsInferredFor}
use Rattle.asl_emitter.specs.Refused.{IsAccepted}
use Rattle.asl_emitter.specs.Sources.{HasRefusedTree}
use Rattle.asl_compile.specs.declared.fault.CompileFault.{CompileFault}
use Rattle.asl_compile.specs.declared.fault.CompileFault.TheVariants.{Source, Infer}

-- the source is an accepted program's, and this image is inferred for it, with paths of at most so many operations
pub record Compiles (source : List ℕ) (k_limit : ℕ) (image : Image) : Type 0 where
  pub tree : List Item
  pub parsed : Parses source tree
  pub accepted : IsAccepted tree k_limit
  pub inferred : IsInferredFor tree k_limit image

-- what each refusal says of the source: its own fault, or that of its tree
abbrev pub IsRefusedSource : List ℕ → ℕ → CompileFault → Type 0
IsRefusedSource source k_limit (Source cause) = syntax.IsFault source cause
IsRefusedSource source k_limit (Infer cause) = HasRefusedTree source k_limit cause
