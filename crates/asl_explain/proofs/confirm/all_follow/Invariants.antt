use Rattle.std.proofs.Common.{◌≡◌, ◌<◌, ℕ, suc, Some, slice_get}
use Rattle.asl_explain.specs.declared.explained_value.Step.{Step}
use Rattle.asl_explain.specs.Chains.{Follows}
use Rattle.asl_explain.specs.Analysed.{read}
use Rattle.asl_explain.specs.Known.{AreKnown}
use Rattle.asl_explain.proofs.confirm.all_follow.Given as goal

abbrev pub invariant-loop-number : goal.invariant-loop-number
invariant-loop-number l = record {
  follow : (n : ℕ) (before s : Step) → suc n < l.number → slice_get l.steps n ≡ Some before → slice_get l.steps (suc n) ≡ Some s → Follows (read l.analysis) before s;
  known : AreKnown (read l.analysis) l.known;
}
