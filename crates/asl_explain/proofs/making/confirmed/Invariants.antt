use Rattle.std.proofs.Common.{suc}
use Rattle.asl_lower.specs.Regions.{Inside}
use Rattle.asl_explain.specs.Explained.{AreChains}
use Rattle.asl_explain.specs.Analysed.{read}
use Rattle.asl_explain.specs.Known.{AreKnown}
use Rattle.asl_explain.proofs.making.confirmed.Given as goal

abbrev pub invariant-loop-chain : goal.invariant-loop-chain
invariant-loop-chain l = record {
  chains : AreChains (read l.analysis) (Inside l.section) (suc l.pc) l.lock l.chains.items;
  known : AreKnown (read l.analysis) l.known;
}
