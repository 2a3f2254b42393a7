use Rattle.std.proofs.Common.{◌≡◌, ◌∙◌, Some, MatchOption, get_or, slice_get, ap, subst}
use Rattle.std.proofs.lemmas.Option.{get_or_from_slice_get}
use Rattle.asl_lock_expr.specs.Links.{IsOne}
use Rattle.asl_backward_flow.specs.declared.region_needs.RegionNeeds as code
use Rattle.asl_backward_flow.specs.Needed.{RegionNeeds}
use Rattle.asl_backward_flow.specs.Parts.{part}
use Rattle.asl_backward_flow.proofs.Blanks.{unmapped}
use Rattle.asl_backward_flow.proofs.LockNumbers.{number_or_none}
use Rattle.asl_backward_flow.proofs.flow.Flow.number.Goals as goal

pub returns : goal.returns
returns c = λ p at.
    let parts = c.self.inside.parts.items in
    let found = c.in_ok-get.field-0.now in
    let here = unmapped part parts c.args.place p (ap (λ all. slice_get all c.args.place) c.self.view_is ∙ at) in
    let same : found ≡ here.0 = c.in_ok-get.ensures.lookup.1 ∙ ap (λ xs. get_or xs c.args.place found) c.deref.ensures.value ∙ get_or_from_slice_get parts c.args.place here.0 found here.1 in
    subst (λ keys. MatchOption c.get_index_of.result (¬ IsOne keys c.args.lock.now) (λ n. slice_get keys n ≡ Some c.args.lock.now))
    (ap (λ (x : code.RegionNeeds). x.locks.keys) same ∙ ap (λ (q : RegionNeeds). q.locks) here.2)
    (number_or_none found.locks.keys c.args.lock.now c.get_index_of.result c.get_index_of.ensures.index)
