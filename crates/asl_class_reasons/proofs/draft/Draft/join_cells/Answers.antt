use Rattle.std.proofs.Common.{◌≡◌, sym, ◌∙◌, subst}
use Rattle.asl_class_reasons.specs.declared.place.Place.TheVariants as place
use Rattle.asl_class_reasons.specs.declared.place.Cause.TheVariants as cause
use Rattle.asl_class_reasons.specs.declared.place.Step.{Step}
use Rattle.asl_class_reasons.specs.declared.draft.Draft.{Draft}
use Rattle.asl_class_reasons.specs.Reasons.{IsReasoned}
use Rattle.asl_class_reasons.specs.Draft.{IsFounded, IsHead}
use Rattle.asl_class_reasons.proofs.Making.{cells_reasoned}
use Rattle.asl_class_reasons.proofs.draft.Draft.join_cells.Goals as goal

pub returns-in-Some-Some-clause-founded : goal.returns-in-Some-Some-clause-founded
returns-in-Some-Some-clause-founded c = λ l f. (
    let s : Draft = c.args.self.now in
    let both : c.target-2.new.self ≡ s = c.target-2.ensures.same ∙ c.target.ensures.same in
    let first = c.in-Some-Some.first in
    let step : Step = record { cause = cause.SameClass; from = place.Cells c.args.member; into = place.Cells first } in
    let head : IsHead s (place.Cells c.args.member) c.in-Some-Some.field-0-1 = subst (λ (x : Draft). IsHead x (place.Cells c.args.member) c.in-Some-Some.field-0-1) c.target.ensures.same c.in-Some-Some.ensures'.head in
    let reasoned : IsReasoned l s.steps.items step = cells_reasoned l s f c.args.member first c.in-Some-Some.field-0-1 c.requires.there c.in-Some-Some.ensures.head head in
    c.join.ensures.founded l (subst (λ (x : Draft). IsFounded l x) (sym both) f) (subst (λ (x : Draft). IsReasoned l x.steps.items step) (sym both) reasoned))
