use Rattle.std.proofs.Common.{refl}
use Rattle.asl_class_reasons.specs.declared.draft.Draft.{Draft}
use Rattle.asl_class_reasons.proofs.Labels.{IsStep, step_made, step_lower, grown_step, founded_step}
use Rattle.asl_class_reasons.proofs.draft.Draft.join.Goals as goal

pub returns-clause-grown : goal.returns-clause-grown
returns-clause-grown c =
    let old : Draft = c.args.self.now in
    let new : Draft = record { members = old.members; functions = old.functions; sets = c.join.new.self; steps = c.push.new.self } in
    let h : IsStep old new c.args.step c.min.result c.max.result = step_made old new c.args.step c.number.result c.number-2.result c.first-from.result c.first-into.result c.min.result c.max.result c.first-from.new.self c.first-into.new.self refl refl c.in_ok-push.ensures.items c.number.ensures c.first-from.ensures.value c.first-from.ensures.same c.number-2.ensures c.first-into.ensures.value c.first-into.ensures.same c.if-from-into.false c.min.ensures c.max.ensures c.join.ensures c.requires.there in
    grown_step old new c.args.step c.min.result c.max.result c.requires.sized h

pub returns-clause-founded : goal.returns-clause-founded
returns-clause-founded c = λ l f r. (
    let old : Draft = c.args.self.now in
    let new : Draft = record { members = old.members; functions = old.functions; sets = c.join.new.self; steps = c.push.new.self } in
    let h : IsStep old new c.args.step c.min.result c.max.result = step_made old new c.args.step c.number.result c.number-2.result c.first-from.result c.first-into.result c.min.result c.max.result c.first-from.new.self c.first-into.new.self refl refl c.in_ok-push.ensures.items c.number.ensures c.first-from.ensures.value c.first-from.ensures.same c.number-2.ensures c.first-into.ensures.value c.first-into.ensures.same c.if-from-into.false c.min.ensures c.max.ensures c.join.ensures c.requires.there in
    founded_step l old new c.args.step c.min.result c.max.result c.requires.sized f r h)

pub returns-clause-lower : goal.returns-clause-lower
returns-clause-lower c = λ apart. (
    let old : Draft = c.args.self.now in
    let new : Draft = record { members = old.members; functions = old.functions; sets = c.join.new.self; steps = c.push.new.self } in
    let h : IsStep old new c.args.step c.min.result c.max.result = step_made old new c.args.step c.number.result c.number-2.result c.first-from.result c.first-into.result c.min.result c.max.result c.first-from.new.self c.first-into.new.self refl refl c.in_ok-push.ensures.items c.number.ensures c.first-from.ensures.value c.first-from.ensures.same c.number-2.ensures c.first-into.ensures.value c.first-into.ensures.same c.if-from-into.false c.min.ensures c.max.ensures c.join.ensures c.requires.there in
    step_lower old new c.args.step c.min.result c.max.result c.requires.sized h)
