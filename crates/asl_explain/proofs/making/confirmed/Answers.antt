use Rattle.std.proofs.Common.{suc, sym, subst}
use Rattle.asl_lower.specs.Regions.{Inside}
use Rattle.asl_explain.specs.Chains.{IsChain}
use Rattle.asl_explain.specs.Explained.{AreChains}
use Rattle.asl_explain.specs.Analysed.{read}
use Rattle.asl_explain.proofs.Needing.{chains_more}
use Rattle.asl_explain.proofs.making.confirmed.Goals as goal

pub loop-chain-preserved-in-Continue-branch-2 : goal.loop-chain-preserved-in-Continue-branch-2
loop-chain-preserved-in-Continue-branch-2 c = record {
  chains = chains_more (read c.args.analysis.now) (Inside c.args.section) (suc c.args.pc) c.args.lock.now c.loop-chain.chains.items c.push.new.self.items c.in-Some.chain c.in_ok-push.ensures.items c.loop-chain.invariant.chains
      (subst (IsChain (read c.args.analysis.now) (Inside c.args.section) (suc c.args.pc) c.args.lock.now) c.as_slice-steps.ensures (c.in_ok-is_chain.ensures.chain c.if-branch.true));
  known = c.in_ok-is_chain.ensures.known;
}

pub returns-clause-chains : goal.returns-clause-chains
returns-clause-chains c = subst (AreChains (read c.args.analysis.now) (Inside c.args.section) (suc c.args.pc) c.args.lock.now) (sym c.from_vec.ensures) c.loop-chain.invariant.chains
