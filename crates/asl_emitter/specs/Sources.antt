-- Sources: those for which a program is inferred, and those for whose tree none is (docs/ANALYSIS.md, "The inferred image").
use Rattle.std.specs.Prelude.{ℕ, List}
use Rattle.asl_syntax.specs.Tree.{Item}
use Rattle.asl_syntax.specs.Parsed.{Parses}
use Rattle.asl_emitter.specs.declared.fault.InferFault.{InferFault}
use Rattle.asl_emitter.specs.Refused.{IsAccepted, IsRefusedInference}

-- the source is a program's, for which an image is inferred
pub record IsAcceptedSource (source : List ℕ) (k_limit : ℕ) : Type 0 where
  pub tree : List Item
  pub parsed : Parses source tree
  pub accepted : IsAccepted tree k_limit

-- the source is a program's, for which no image is inferred
pub record HasRefusedTree (source : List ℕ) (k_limit : ℕ) (cause : InferFault) : Type 0 where
  pub tree : List Item
  pub parsed : Parses source tree
  pub refused : IsRefusedInference tree k_limit cause
