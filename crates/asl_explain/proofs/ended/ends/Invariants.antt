use Rattle.std.proofs.Common.{◌≡◌, ◌<◌, ℕ, Some, slice_get}
use Rattle.asl_explain.specs.Chains.{IsDropped}
use Rattle.asl_explain.specs.Analysed.{read}
use Rattle.asl_explain.proofs.ended.ends.Given as goal

abbrev pub invariant-loop-pc : goal.invariant-loop-pc
invariant-loop-pc l = (n q : ℕ) → n < l.pc-index → slice_get l.news n ≡ Some q → ¬ IsDropped (read l.analysis) l.at.number q l.lock
