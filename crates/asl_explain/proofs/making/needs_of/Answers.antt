use Rattle.std.proofs.Common.{suc, sym, subst, ◌∙◌}
use Rattle.asl_code.specs.declared.lock.Lock.{Lock}
use Rattle.asl_lower.specs.Regions.{Inside}
use Rattle.asl_lock_expr.specs.Links.{IsOne}
use Rattle.asl_emitter.proofs.Reducing.{one_at}
use Rattle.asl_explain.specs.Chains.{Needs}
use Rattle.asl_explain.specs.Explained.{AreChains, AreNeeds}
use Rattle.asl_explain.specs.Analysed.{read}
use Rattle.asl_explain.proofs.Needing.{needs_more, ones_more, same_more}
use Rattle.asl_explain.proofs.making.needs_of.Goals as goal

pub loop-lock-preserved : goal.loop-lock-preserved
loop-lock-preserved c =
    let x = read c.args.analysis.now in
    let d = c.in_ok-find_need.field-0 in
    let there = subst (IsOne c.args.locks.now) (sym c.lock-item.is) (one_at c.args.locks.now c.loop-lock.lock-index c.lock-item.result c.loop-lock-test.true) in
    record {
      needs = needs_more x c.args.number c.args.section c.loop-lock.needs.items c.push.new.self.items d c.in_ok-push.ensures.items c.loop-lock.invariant.needs (record {
        needed = subst (λ (m : Lock). Needs x (Inside c.args.number) (suc c.args.section.acquire) m) (sym c.in_ok-find_need.ensures.lock) (c.requires.needed c.lock-item.result there);
        chains = subst (λ (m : Lock). AreChains x (Inside c.args.number) (suc c.args.section.acquire) m d.chains) (sym c.in_ok-find_need.ensures.lock) c.in_ok-find_need.ensures.chains;
      });
      locks = ones_more c.loop-lock.needs.items c.push.new.self.items d c.in_ok-push.ensures.items c.args.locks.now c.loop-lock.lock-index c.lock-item.result c.loop-lock-test.true
          (c.in_ok-find_need.ensures.lock ∙ c.lock-item.is) c.loop-lock.invariant.locks;
      known = c.in_ok-find_need.ensures.known;
      same = same_more c.loop-lock.needs.items c.push.new.self.items d c.in_ok-push.ensures.items c.args.locks.now c.loop-lock.lock-index c.lock-item.result c.loop-lock-test.true
          (c.in_ok-find_need.ensures.lock ∙ c.lock-item.is) c.loop-lock.invariant.same;
    }

pub returns-clause-needs : goal.returns-clause-needs
returns-clause-needs c = subst (AreNeeds (read c.args.analysis.now) c.args.number c.args.section) (sym c.from_vec.ensures) c.loop-lock.invariant.needs
