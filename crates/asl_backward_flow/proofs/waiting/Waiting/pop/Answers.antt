use Rattle.std.proofs.Common.{◌∷◌, sym, subst}
use Rattle.std.specs.BinaryHeap.{heap_items}
use Rattle.std.specs.List.Sorted.{IsPermutation}
use Rattle.asl_backward_flow.proofs.Taking.{taken}
use Rattle.asl_backward_flow.proofs.waiting.Waiting.pop.Goals as goal

pub returns-clause-taken : goal.returns-clause-taken
returns-clause-taken c =
    taken c.args.self.now c.self.inside.row.items (heap_items c.self.inside.others) (heap_items c.drop_same.new.others) c.in_ok-point.point
    (subst (λ l. IsPermutation c.args.self.now (c.in_ok-point.point ∷ l)) (sym c.self.view_is) c.in_ok-point.ensures.point) c.drop_same.ensures

pub returns-clause-len : goal.returns-clause-len
returns-clause-len c = (returns-clause-taken c).shorter
