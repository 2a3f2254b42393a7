use Rattle.std.proofs.Common.{ℕ, List, arith, refl, subst}
use Rattle.asl_tool.specs.Step.{AllThere}
use Rattle.asl_tool.proofs.Schedules.{first_steps, few_steps}
use Rattle.asl_tool.proofs.commands.step.judge.Goals as goal

pub returns-then-not-all_there : goal.returns-then-not-all_there
returns-then-not-all_there c =
    let first = first_steps _ c.min-most.result c.args.schedule.now c.min-most.ensures in (
      (omega arith, omega (arith, c.limits.ensures.threads)),
      λ each. let none = c.if-not-all_there.ensures.1 (rw first each) in absurd cc,
    )

pub returns-then-schedule-gt-MAX_EVENTS : goal.returns-then-schedule-gt-MAX_EVENTS
returns-then-schedule-gt-MAX_EVENTS c =
    let first = first_steps _ c.min-most.result c.args.schedule.now c.min-most.ensures in (
      (omega arith, omega (arith, c.limits.ensures.threads)),
      subst (λ (s : List ℕ). AllThere c.args.threads s) first (c.if-not-all_there.ensures.0 refl),
      omega arith,
    )

pub returns : goal.returns
returns c =
    let whole = few_steps _ c.min-most.result c.args.schedule.now c.min-most.ensures (omega arith) in
    record {
      count = (omega arith, omega (arith, c.limits.ensures.threads));
      short = omega arith;
      there = subst (λ (s : List ℕ). AllThere c.args.threads s) whole (c.if-not-all_there.ensures.0 refl);
    }
