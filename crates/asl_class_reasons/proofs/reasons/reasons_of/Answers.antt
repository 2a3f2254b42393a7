use Rattle.std.proofs.Common.{List, length, sym, subst}
use Rattle.asl_class_reasons.specs.declared.flow.Owed.{Owed}
use Rattle.asl_class_reasons.specs.Draft.{AreOf, AreOwed}
use Rattle.asl_class_reasons.proofs.Instructions.{owed_all}
use Rattle.asl_class_reasons.proofs.Making.{one_of, one_there, all_reasons}
use Rattle.asl_class_reasons.proofs.LeftOut.{like_self}
use Rattle.asl_class_reasons.proofs.reasons.reasons_of.Goals as goal

pub shorten-requires-clause-there : goal.shorten-requires-clause-there
shorten-requires-clause-there c =
    let xs : List Owed = c.deref-one-items.result.now in
    let each : AreOf c.args.lowering.now xs = subst (λ (ys : List Owed). AreOf c.args.lowering.now ys) (sym c.deref-one-items.ensures.value) c.in_ok-owed.ensures.each in
    one_there c.args.lowering.now c.loop-one.draft c.loop-one.invariant.founded xs each c.loop-one.one-index _ c.loop-one-test.true

pub loop-one-preserved : goal.loop-one-preserved
loop-one-preserved c =
    let xs : List Owed = c.deref-one-items.result.now in
    let each : AreOf c.args.lowering.now xs = subst (λ (ys : List Owed). AreOf c.args.lowering.now ys) (sym c.deref-one-items.ensures.value) c.in_ok-owed.ensures.each in
    c.in_ok-shorten.ensures.settled c.args.lowering.now c.loop-one.invariant (one_of c.args.lowering.now xs each c.loop-one.one-index _ c.loop-one-test.true)

pub returns-clause-all : goal.returns-clause-all
returns-clause-all c = all_reasons c.args.lowering.now c.loop-one.draft c.loop-one.invariant

pub settled-requires : goal.settled-requires
settled-requires c = subst (λ (xs : List Owed). AreOf c.args.lowering.now xs) (sym c.deref.ensures.value) c.in_ok-owed.ensures.each

pub loop-one-init : goal.loop-one-init
loop-one-init c =
    let l = c.args.lowering.now in
    let h = c.in_ok-draft.ensures.kept.layout in
    let owed : AreOwed l (length l.code) c.deref.result.now = subst (λ (xs : List Owed). AreOwed l (length l.code) xs) (sym c.deref.ensures.value) c.in_ok-owed.ensures in
    c.in_ok-draft.ensures.settled l (like_self l) (owed_all l h c.deref.result.now owed)
