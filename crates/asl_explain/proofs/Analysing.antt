-- The flow of an analysis tells what is needed by the sets of the classes that functions store to.
use Rattle.std.proofs.Common.{ℕ, List}
use Rattle.asl_lower.specs.Lowered.{Lowered}
use Rattle.asl_points_to.specs.Classes.{Classed}
use Rattle.asl_lock_expr.specs.ClassOf.{TellsStores}
use Rattle.asl_lock_expr.specs.Stores.{stores}
use Rattle.asl_backward_flow.specs.Needed.{RegionNeeds, TellsNeeded}
use Rattle.asl_backward_flow.specs.Flows.{IsFlow}
use Rattle.asl_backward_flow.proofs.Alike.{tests_same, needed_same}

pub tells_needed : (l : Lowered) (c : Classed) (k_limit : ℕ) (w : List (List ℕ)) (parts : List RegionNeeds) → TellsStores l c (stores w) → IsFlow l c k_limit parts → TellsNeeded l c (stores w) k_limit parts
tells_needed l c k_limit w parts own flow r pc lock =
    let there = tests_same l c flow.stores (stores w) flow.written own in
    let back = tests_same l c (stores w) flow.stores own flow.written in (
      λ t. needed_same l c k_limit flow.stores (stores w) there r pc lock ((flow.tells r pc lock).0 t),
      λ n. (flow.tells r pc lock).1 (needed_same l c k_limit (stores w) flow.stores back r pc lock n),
    )
