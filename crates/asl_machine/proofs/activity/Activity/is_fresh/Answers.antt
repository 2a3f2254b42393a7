use Rattle.std.proofs.Common.{◌∙◌, subst}
use Rattle.std.specs.Ordering.{nat_cmp}
use Rattle.std.specs.List.Sorted.{IsBinarySearchResult}
use Rattle.asl_machine.proofs.Rising.{found_fresh}
use Rattle.asl_machine.proofs.activity.Activity.is_fresh.Goals as goal

pub returns : goal.returns
returns c =
    let found = subst (λ xs. IsBinarySearchResult (λ y. nat_cmp y c.args.object) xs c.binary_search.result) c.as_slice.ensures.value c.binary_search.ensures.position in
    rw (← c.self.view_is) (c.is_ok.ensures.value ∙ found_fresh c.self.inside.fresh.items c.args.object c.binary_search.result found c.self.invariant.1)
