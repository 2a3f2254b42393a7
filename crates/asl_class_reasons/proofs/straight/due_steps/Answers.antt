use Rattle.std.proofs.Common.{List, sym, subst, ◌∙◌}
use Rattle.asl_class_reasons.specs.declared.flow.Owed.{Owed}
use Rattle.asl_class_reasons.specs.declared.draft.Draft.{Draft}
use Rattle.asl_class_reasons.specs.Draft.{IsSized, IsFounded, AreOf}
use Rattle.asl_class_reasons.specs.Chains.{AreStepsThere}
use Rattle.asl_class_reasons.specs.Reasons.{AreReasonedBy}
use Rattle.asl_class_reasons.proofs.Making.{one_of, one_there}
use Rattle.asl_class_reasons.proofs.straight.due_steps.Goals as goal

pub push_due-requires-clause-there : goal.push_due-requires-clause-there
push_due-requires-clause-there c =
    let xs : List Owed = c.deref-one-items.result.now in
    let each : AreOf c.args.lowering.now xs = subst (λ (ys : List Owed). AreOf c.args.lowering.now ys) (sym c.deref-one-items.ensures.value) c.in_ok-owed.ensures.each in
    one_there c.args.lowering.now c.loop-one.draft c.loop-one.invariant.founded xs each c.loop-one.one-index _ c.loop-one-test.true

pub loop-one-preserved : goal.loop-one-preserved
loop-one-preserved c =
    let l = c.args.lowering.now in
    let xs : List Owed = c.deref-one-items.result.now in
    let each : AreOf l xs = subst (λ (ys : List Owed). AreOf l ys) (sym c.deref-one-items.ensures.value) c.in_ok-owed.ensures.each in
    let i = c.loop-one.invariant in
    let e = c.in_ok-push_due.ensures in
    let of = one_of l xs each c.loop-one.one-index _ c.loop-one-test.true in
    let back = sym e.same in
    record {
      sized = subst (λ (d : Draft). IsSized d) back i.sized;
      founded = subst (λ (d : Draft). IsFounded l d) back i.founded;
      same = e.same ∙ i.same;
      there = subst (λ (d : Draft). AreStepsThere d.members d.functions c.push_due.new.steps.items) back (e.there i.there);
      reasoned = subst (λ (d : Draft). AreReasonedBy l d.steps.items c.push_due.new.steps.items) back (e.reasoned l i.founded of i.reasoned);
    }

pub returns-clause-reasoned : goal.returns-clause-reasoned
returns-clause-reasoned c =
    subst (λ (d : Draft). AreReasonedBy c.args.lowering.now d.steps.items c.loop-one.steps.items) c.loop-one.invariant.same c.loop-one.invariant.reasoned
