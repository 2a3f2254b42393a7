-- How long the paths of a document's lists are (docs/PROOFS.md, "The lists as data").
use Rattle.std.specs.Prelude.{◌≡◌, ◌<◌, ◌≤◌, ℕ, List, Option, None, Some}
use Rattle.asl_backward_flow.specs.declared.region.Region.{Region}
use Rattle.asl_emitter.specs.declared.fault.InferFault.TheVariants as infer
use Rattle.asl_emitter.specs.Sources.{HasRefusedTree}
use Rattle.asl_explain.specs.declared.fault.ExplainFault.{ExplainFault}
use Rattle.asl_explain.specs.declared.fault.ExplainFault.TheVariants.{Infer}
use Rattle.asl_explain.specs.Explained.{IsRefusedExplanation}

-- with longer paths some region of the source needs too many locks
abbrev pub AreTooLong : List ℕ → ℕ → Type 0
AreTooLong source k = (n : ℕ) → k < n → n ≤ 8 → (region : Region) × HasRefusedTree source n (infer.TooManyLocks region)

-- the length that is asked for; where none is, the greatest with which no region needs too many locks
abbrev pub IsLength : List ℕ → Option ℕ → ℕ → Type 0
IsLength source (Some k) n = n ≡ k
IsLength source None n = (n ≤ 8) × AreTooLong source n

-- some region needs too many locks
abbrev pub IsTooMany : ExplainFault → Type 0
IsTooMany (Infer (infer.TooManyLocks region)) = Unit {0}
IsTooMany fault = ⊥

-- what a refusal says of the source: it is that of the length that is asked for; where none is, too many locks are needed even with no path
abbrev pub IsLast : Option ℕ → ℕ → ExplainFault → Type 0
IsLast (Some k) n fault = Unit {0}
IsLast None n fault = IsTooMany fault → n ≡ 0

-- the source is refused so with paths of the length that is asked for, or else of the last length that is tried, from 8 down to 0
abbrev pub IsRefusedAt : List ℕ → Option ℕ → ExplainFault → Type 0
IsRefusedAt source k fault = (n : ℕ) × IsLength source k n × IsRefusedExplanation source n fault × IsLast k n fault
