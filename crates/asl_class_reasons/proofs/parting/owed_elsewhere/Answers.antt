use Rattle.std.proofs.Common.{◌+◌, [], List, Vec, Global, take, sym, subst}
use Rattle.asl_class_reasons.specs.declared.place.Place.TheVariants as place
use Rattle.asl_class_reasons.specs.declared.flow.Flow.TheVariants as flow
use Rattle.asl_class_reasons.specs.declared.flow.Owed.{Owed}
use Rattle.asl_class_reasons.specs.Draft.{IsElsewhere}
use Rattle.asl_class_reasons.proofs.LeftOut.{elsewhere_none, elsewhere_on, elsewhere_off}
use Rattle.asl_class_reasons.proofs.parting.owed_elsewhere.Goals as goal
use Rattle.asl_class_reasons.proofs.parting.owed_elsewhere.Goals.{then-one-pc+in_ok-push, else-one-pc}

-- what is read
abbrev none : Owed
none = record { pc = 0; flow = flow.Copy (place.Member 0) (place.Member 0) }

pub loop-one-init : goal.loop-one-init
loop-one-init c = subst (λ (ys : List Owed). IsElsewhere [] c.args.pc ys) (sym c.new-elsewhere.ensures.items) (elsewhere_none c.args.pc)

pub loop-one-preserved : goal.loop-one-preserved
loop-one-preserved c =
    let xs : List Owed = c.args.owed.now in
    let i = c.loop-one.one-index in
    let more : List Owed = take (i + 1) xs in
    elim c.if-one-pc.branch [
      | then-one-pc+in_ok-push w ↦ subst (λ (v : Vec Owed Global). IsElsewhere more c.args.pc v.items) (sym w.elsewhere-is) (subst (λ (ys : List Owed). IsElsewhere more c.args.pc ys) (sym w.in_ok-push.ensures.items) (elsewhere_on xs c.loop-one.elsewhere.items c.args.pc i none c.loop-one-test.true w.if-one-pc.true c.loop-one.invariant))
      | else-one-pc w ↦ subst (λ (v : Vec Owed Global). IsElsewhere more c.args.pc v.items) (sym w.elsewhere-is) (elsewhere_off xs c.loop-one.elsewhere.items c.args.pc i none c.loop-one-test.true w.if-one-pc.false c.loop-one.invariant)
    ]
