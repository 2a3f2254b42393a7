-- A source with its classes, and the reasons why their members share them (docs/ANALYSIS.md, "Why one class").
use Rattle.std.specs.Prelude.{ℕ, List}
use Rattle.asl_class_reasons.specs.declared.place.Step.{Step}
use Rattle.asl_class_reasons.specs.Reasons.{AreAllReasons}
use Rattle.asl_class_text.specs.declared.facts.Known.{Known}
use Rattle.asl_class_text.specs.Classes.{IsKnown}

-- what is known of a source, and steps
pub record Reasoned : Type 0 where
  pub known : Known
  pub steps : List Step

-- what is known of this source, and all its reasons
pub record IsReasoned (source : List ℕ) (r : Reasoned) : Type 0 where
  pub known : IsKnown source r.known
  pub reasons : AreAllReasons r.known.facts.lowering r.steps
