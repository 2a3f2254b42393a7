use Rattle.std.proofs.Common.{List, suc, subst}
use Rattle.asl_lower.specs.Regions.{Inside}
use Rattle.asl_explain.specs.declared.explained_value.Step.{Step}
use Rattle.asl_explain.specs.Chains.{IsChain}
use Rattle.asl_explain.specs.Explained.{IsEnding}
use Rattle.asl_explain.specs.Analysed.{read}
use Rattle.asl_explain.proofs.Confirming.{if_ok_so}
use Rattle.asl_explain.proofs.confirm.is_ending.Goals as goal

pub is_chain-requires-clause-known : goal.is_chain-requires-clause-known
is_chain-requires-clause-known c = c.new-known.ensures (read c.args.analysis.now)

pub returns : goal.returns
returns c =
    let x = read c.args.analysis.now in
    if_ok_so c.is_chain.result _ (IsEnding x c.args.number c.args.lock.now c.args.ending.now)
    (λ chain. record {
      chain = subst (λ (steps : List Step). IsChain x (Inside c.args.number) (suc c.args.ending.now.pc) c.args.lock.now steps) c.as_slice-steps.ensures chain;
      dropped = c.is_dropped.ensures c.if-not-is_dropped.false;
    })
    c.is_chain.ensures.chain
