use Rattle.std.proofs.Common.{refl}
use Rattle.asl_class_reasons.specs.declared.draft.Draft.{Draft}
use Rattle.asl_class_reasons.proofs.Making.{IsLonger, longer_made, longer_grown, longer_founded}
use Rattle.asl_class_reasons.proofs.draft.Draft.add.Goals as goal

pub returns-clause-grown : goal.returns-clause-grown
returns-clause-grown c =
    let old : Draft = c.args.self.now in
    let mid : Draft = c.join.new.self in
    let new : Draft = record { members = mid.members; functions = mid.functions; sets = mid.sets; steps = c.push.new.self } in
    let h : IsLonger old new c.args.step = longer_made old mid new c.args.step (c.in_ok-join.ensures.same c.if-branch.false).0 c.requires.there refl refl refl c.in_ok-push.ensures.items in
    longer_grown old new c.args.step c.requires.sized h

pub returns-clause-founded : goal.returns-clause-founded
returns-clause-founded c = λ l f r. (
    let old : Draft = c.args.self.now in
    let mid : Draft = c.join.new.self in
    let new : Draft = record { members = mid.members; functions = mid.functions; sets = mid.sets; steps = c.push.new.self } in
    let h : IsLonger old new c.args.step = longer_made old mid new c.args.step (c.in_ok-join.ensures.same c.if-branch.false).0 c.requires.there refl refl refl c.in_ok-push.ensures.items in
    longer_founded l old new c.args.step f r h)

pub returns-clause-steps : goal.returns-clause-steps
returns-clause-steps c =
    let old : Draft = c.args.self.now in
    let mid : Draft = c.join.new.self in
    let new : Draft = record { members = mid.members; functions = mid.functions; sets = mid.sets; steps = c.push.new.self } in
    let h : IsLonger old new c.args.step = longer_made old mid new c.args.step (c.in_ok-join.ensures.same c.if-branch.false).0 c.requires.there refl refl refl c.in_ok-push.ensures.items in
    h.steps
