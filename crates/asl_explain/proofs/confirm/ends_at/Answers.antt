use Rattle.std.proofs.Common.{rules, ◌≡◌, ◌-◌, ℕ, suc, length, Some, slice_get, subst}
use Rattle.asl_lower.specs.Regions.{Inside}
use Rattle.asl_backward_flow.specs.Needed.{region_of}
use Rattle.asl_explain.specs.Chains.{Stays}
use Rattle.asl_explain.specs.Analysed.{read}
use Rattle.asl_explain.proofs.Confirming.{if_ok_so}
use Rattle.asl_explain.proofs.confirm.ends_at.Goals as goal

pub returns-clause-ends : goal.returns-clause-ends
returns-clause-ends c =
    let steps = c.args.steps.now in
    let step = c.in-Some-Some.step.now in
    let start : c.in-Some-Some.start ≡ suc c.args.pc = search rules in
    let last : suc (length steps - 1) ≡ length steps = search rules in
    let at : slice_get steps (length steps - 1) ≡ Some step = search rules in
    let region : region_of step.region ≡ Inside c.args.section = search rules in
    let holds : step.lock ≡ c.args.lock.now = search rules in
    if_ok_so c.stays_to.result _ _
    (λ stays. record {
      number = length steps - 1;
      last = last;
      step = step;
      at = at;
      region = region;
      holds = holds;
      stays = subst (λ (from : ℕ). Stays (read c.args.analysis.now) (Inside c.args.section) c.args.lock.now from step.pc) start stays;
    })
    c.stays_to.ensures.stays
