use Rattle.std.proofs.Common.{◌++◌, ◌∷◌, [], ap, ◌∙◌}
use Rattle.asl_class_reasons.specs.declared.draft.Draft.{Draft}
use Rattle.asl_class_reasons.proofs.Making.{longer_settled}
use Rattle.asl_class_reasons.proofs.draft.Draft.shorten.Goals as goal

pub returns-in_ok-push-clause-settled : goal.returns-in_ok-push-clause-settled
returns-in_ok-push-clause-settled c = λ l k of. (
    let old : Draft = c.args.self.now in
    let mid : Draft = c.due.new.self in
    let new : Draft = record { members = mid.members; functions = mid.functions; sets = mid.sets; steps = c.push.new.self } in
    let same = c.due.ensures.same in
    longer_settled l old new c.in-Some.step k (c.in-Some.ensures.reasoned l k.founded of) (record {
      members = ap (λ (s : Draft). s.members) same;
      functions = ap (λ (s : Draft). s.functions) same;
      sets = ap (λ (s : Draft). s.sets) same;
      steps = c.in_ok-push.ensures.items ∙ ap (λ (s : Draft). s.steps.items ++ c.in-Some.step ∷ []) same;
      there = c.in-Some.ensures.there;
    }))
