-- Machinery of the proofs, not of the promise: what is known of the steps of chains (src/known.rt).
use Rattle.std.specs.Prelude.{List}
use Rattle.std.specs.List.{All}
use Rattle.asl_explain.specs.declared.known.Known.{Known}
use Rattle.asl_explain.specs.declared.known.Pair.{Pair}
use Rattle.asl_explain.specs.Chains.{Read, Follows}
use Rattle.asl_explain.specs.Analysed.{AreStretches}

-- each step follows from the one before it
abbrev pub ArePairs : Read → List Pair → Type 0
ArePairs x pairs = All (λ (p : Pair). Follows x p.before p.step) pairs

-- all that is known of ways and of steps is so
pub record AreKnown (x : Read) (known : Known) : Type 0 where
  pub recent : AreStretches x known.recent.items
  pub ways : AreStretches x known.ways.items
  pub pairs : ArePairs x known.pairs.items
