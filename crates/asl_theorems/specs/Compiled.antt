-- What `compile` takes a source for: nothing here speaks of faults or of atomicity.
use Rattle.std.specs.Prelude.{ℕ, List}
use Rattle.asl_code.specs.declared.image.Image.{Image}
use Rattle.asl_syntax.specs.Tree.{Item}
use Rattle.asl_syntax.specs.Parsed.{Parses}
use Rattle.asl_emitter.specs.Inferred.{IsInferredFor}
use Rattle.asl_emitter.specs.Refused.{IsAccepted}

-- the source is an accepted program's, and this image is inferred for it, with paths of at most so many operations
pub record Compiles (source : List ℕ) (k_limit : ℕ) (image : Image) : Type 0 where
  pub tree : List Item
  pub parsed : Parses source tree
  pub accepted : IsAccepted tree k_limit
  pub inferred : IsInferredFor tree k_limit image
