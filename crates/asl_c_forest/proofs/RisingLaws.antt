-- A request that rises names no node twice.
use Rattle.std.proofs.Common.{◌≡◌, true, false, not, ◌&&◌, ◌||◌, [], ◌∷◌, Option, None, Some, refl, ap, sym, ◌∙◌, inl, inr}
use Rattle.std.proofs.lemmas.Bool.{and_parts}
use Rattle.asl_lock_forest.specs.declared.node.Node.{Node}
use Rattle.asl_lock_forest.specs.Holding.{Request}
use Rattle.asl_lock_forest.specs.Request.{names, names_once}
use Rattle.asl_lock_forest.proofs.Laws.{tell_nodes}
use Rattle.asl_lock_queue.specs.Order.{is_below, is_after, rises_after, is_rising}
use Rattle.asl_lock_queue.proofs.OrderLaws.{below_apart}
use Rattle.asl_lock_queue.proofs.RisingLaws.{rises_below}

-- what rises after a node does not name it
unnamed : (n : Node) (request : Request) → rises_after (Some n) request ≡ true → names request n ≡ false
unnamed n [] rises = refl
unnamed n (ask ∷ others) rises =
    let parts = and_parts (is_below n ask.0) (rises_after (Some ask.0) others) rises in
    elim (tell_nodes ask.0 n) [
      | inl same ↦ absurd (below_apart n ask.0 parts.0 (sym same.1))
      | inr other ↦ ap (λ b. b || names others n) other.0 ∙ unnamed n others (rises_below n ask.0 others parts.0 parts.1)
    ]

once_after : (last : Option Node) (request : Request) → rises_after last request ≡ true → names_once request ≡ true
once_after last [] rises = refl
once_after last (ask ∷ others) rises =
    let parts = and_parts (is_after last ask.0) (rises_after (Some ask.0) others) rises in
    ap (λ b. not b && names_once others) (unnamed ask.0 others parts.1) ∙ once_after (Some ask.0) others parts.1

pub rising_names_once : (request : Request) → is_rising request ≡ true → names_once request ≡ true
rising_names_once request rises = once_after None request rises
