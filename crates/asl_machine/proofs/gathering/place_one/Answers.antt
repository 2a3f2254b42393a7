use Rattle.std.proofs.Common.{rules, ◌≡◌, ◌≤◌, ◌+◌, Some, None, length, sym, subst}
use Rattle.std.specs.Prelude.{position}
use Rattle.asl_lock_forest.specs.Node.{same_node}
use Rattle.asl_lock_forest.specs.Holding.{Request}
use Rattle.asl_machine.specs.Places.{ArePlaces}
use Rattle.asl_machine.proofs.Joins.{joined_found, joined_unfound}
use Rattle.asl_machine.proofs.NodePlaces.{joined_longer, places_joined}
use Rattle.asl_machine.proofs.gathering.place_one.Goals as goal

pub returns-in-Some-clause-added : goal.returns-in-Some-clause-added
returns-in-Some-clause-added c = let f = joined_found _ c.args.node c.args.mode c.in-Some.i c.index_mut-ask.result.now c.in-Some.ensures in cc

pub returns-in-Some-clause-kept : goal.returns-in-Some-clause-kept
returns-in-Some-clause-kept c =
    subst (ArePlaces c.args.places.now) (sym (returns-in-Some-clause-added c))
    (places_joined c.args.request.now.items c.args.node c.args.mode c.in-Some.i
    (subst (λ (r : Request). Some c.in-Some.i ≡ position (λ ask. same_node ask.0 c.args.node) r) c.deref.ensures.value c.in-Some.ensures) c.args.places.now c.requires.kept)

pub returns-in-Some-clause-one : goal.returns-in-Some-clause-one
returns-in-Some-clause-one c =
    subst (λ (r : Request). length r ≤ length c.args.request.now.items + 1) (sym (returns-in-Some-clause-added c)) (joined_longer c.args.request.now.items c.args.node c.args.mode)

pub returns-in_ok-push-in-None-clause-added : goal.returns-in_ok-push-in-None-clause-added
returns-in_ok-push-in-None-clause-added c = let f = joined_unfound _ c.args.node c.args.mode c.in-None.ensures in cc (c.in_ok-push-in-None.ensures.items)

pub returns-in_ok-push-in-None-clause-kept : goal.returns-in_ok-push-in-None-clause-kept
returns-in_ok-push-in-None-clause-kept c =
    let old = c.args.request.now.items in
    let none : None ≡ position (λ ask. same_node ask.0 c.args.node) old = subst (λ (r : Request). None ≡ position (λ ask. same_node ask.0 c.args.node) r) c.deref.ensures.value c.in-None.ensures in
    subst (ArePlaces c.note.new.self) (sym c.in_ok-push-in-None.ensures.items) (c.note.ensures old c.args.mode (search rules) c.requires.kept (sym none))
