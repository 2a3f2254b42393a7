-- Chains as they are told: each step with its number in a list of steps (docs/ANALYSIS.md, "Why one class").
use Rattle.std.specs.Prelude.{◌≡◌, ℕ, List, [], ◌∷◌, Some, slice_get, take}
use Rattle.asl_lower.specs.Lowered.{Lowered}
use Rattle.asl_class_reasons.specs.declared.place.Place.{Place}
use Rattle.asl_class_reasons.specs.declared.place.Step.{Step}
use Rattle.asl_class_reasons.specs.declared.place.Link.{Link}
use Rattle.asl_class_reasons.specs.Reasons.{Joined, AreReasonedBy}
use Rattle.asl_class_text.specs.declared.told.ToldStep.{ToldStep}
use Rattle.asl_class_text.specs.Kinds.{start_of, end_of}

-- the told steps lead from one place to another, and each is the one of its number
abbrev pub IsToldChain : List Step → Place → List ToldStep → Place → Type 0
IsToldChain steps a [] b = a ≡ b
IsToldChain steps a (t ∷ ts) b = (slice_get steps t.number ≡ Some t.step) × (start_of t ≡ a) × IsToldChain steps (end_of t) ts b

-- the told steps lead from one place to another and are no circle: each of them is reasoned by the first so many reasons of the
-- list, and these leave the two places apart
pub record IsStraightChain (l : Lowered) (reasons : List Step) (from into : Place) (ts : List ToldStep) : Type 0 where
  pub before : ℕ
  pub apart : ¬ Joined (take before reasons) from into
  pub steps : List Step
  pub reasoned : AreReasonedBy l (take before reasons) steps
  pub chain : IsToldChain steps from ts into

-- the told step is that of a link from a place
pub record IsTold (steps : List Step) (at : Place) (k : Link) (t : ToldStep) : Type 0 where
  pub its : slice_get steps t.number ≡ Some t.step
  pub starts : start_of t ≡ at
  pub ends : end_of t ≡ k.into
