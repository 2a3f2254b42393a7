use Rattle.std.proofs.Common.{rules, ◌≡◌, ◌+◌, ◌≤◌, suc, true, sym, subst, arith}
use Rattle.asl_lock_expr.specs.Links.{LinkContext, IsOne, link}
use Rattle.asl_backward_flow.specs.Needed.{region_of}
use Rattle.asl_explain.specs.Chains.{Stays, Here, Over}
use Rattle.asl_explain.specs.Analysed.{read}
use Rattle.asl_explain.proofs.walk.next_stop.Goals as goal

pub loop-pc-init : goal.loop-pc-init
loop-pc-init c =
    let first : c.args.span.first ≤ c.args.from = search rules in
    record { stays = Here; first = first }

pub loop-pc-preserved : goal.loop-pc-preserved
loop-pc-preserved c =
    let x = read c.args.analysis.now in
    let pc = c.loop-pc.pc in
    let low = c.loop-pc.invariant.first in
    let next : suc pc ≡ pc + 1 = omega arith in
    let passed : c.in_ok-is_passed.field-0 ≡ true = search (rules, c.if-not-branch.false) in
    let first : c.args.span.first ≤ pc + 1 = omega (arith, low) in
    record {
      stays = subst (Stays x (region_of c.args.span.region) c.args.lock.now c.args.from) next (Over pc (suc pc) c.loop-pc.invariant.stays (record {
        function = c.args.span.function;
        instruction = c.in-Some.instr;
        at = record { inside = c.requires.span pc low c.loop-pc-test.true; stands = sym c.in-Some.ensures };
        goes_on = c.in_ok-is_passed.ensures.next passed pc;
        keeps = subst (λ (v : LinkContext). IsOne (link v c.in-Some.instr c.args.lock.now) c.args.lock.now) c.view-view.ensures (c.in_ok-is_passed.ensures.kept passed);
      }));
      first = first;
    }
