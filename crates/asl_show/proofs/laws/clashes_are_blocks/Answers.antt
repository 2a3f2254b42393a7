use Rattle.std.proofs.Common.{◌<◌, ℕ, length, subst, sym, inl, inr}
use Rattle.std.proofs.lemmas.Bool.{cases_Bool}
use Rattle.asl_lock_forest.specs.Holding.{asked, held, can_grant}
use Rattle.asl_lock_forest.proofs.Grantable.{can_grant-tells, can_grant-refused}
use Rattle.asl_lock_forest.proofs.Lawful.{way_there}
use Rattle.asl_show.proofs.Clashes.{granted_empty, refused_not_empty, clash_is_held}
use Rattle.asl_show.proofs.laws.clashes_are_blocks.Goals as goal

pub returns : goal.returns
returns c = λ image count s new t request reply v r at step.
    let granted = c.requests_are_granted.ensures.granted image s new t request reply at step in (
      λ empty. elim (cases_Bool (can_grant s.holding t request)) [
        | inl free ↦ granted.1 (can_grant-tells s.holding t request free)
        | inr taken ↦
            (let way = can_grant-refused s.holding t request taken in
            let there = way_there image.classes count s.holding t request way.0 way.1 (c.reached_holdings_are_lawful.ensures.within image count s v r) way.2 in
            let lt : way.0 < length s.threads = subst (λ (n : ℕ). way.0 < n) (sym (c.runs_reach.ensures.count image count s r)) there in
            let node = c.held_nodes_are_there.ensures image count s way.0 way.1 v r (clash_is_held (asked request way.1) (held s.holding way.0 way.1) way.2.clashes) in
            absurd (refused_not_empty image.classes s t request way.0 way.1 way.2.different lt node way.2.clashes empty))
      ],
      λ ran. granted_empty image.classes s t request (granted.0 ran),
    )
