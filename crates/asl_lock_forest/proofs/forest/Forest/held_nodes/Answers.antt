use Rattle.std.proofs.Common.{◌≡◌, ◌<◌, [], map, slice_index_or, ap, sym, subst, ◌∙◌, arith}
use Rattle.std.proofs.lemmas.List.{get_or-map, length-map}
use Rattle.asl_lock_forest.specs.Held.{Held}
use Rattle.asl_lock_forest.specs.Holding.{held, asked}
use Rattle.asl_lock_forest.proofs.ListLaws.{held_lists}
use Rattle.asl_lock_forest.proofs.forest.Forest.held_nodes.Goals as goal

pub returns : goal.returns
returns c node =
    let within : c.args.thread < c.self.inside.threads = subst (λ (f : Held). c.args.thread < f.threads) (sym c.self.view_is) c.requires in
    let count = c.self.invariant.lists_there in
    let same = length-map c.self.inside.held.items (λ v. v.items) in
    let own : c.as_slice.result.now ≡ slice_index_or (map (λ v. v.items) c.self.inside.held.items) c.args.thread [] =
    c.as_slice.ensures.value ∙ ap (λ v. v.items) c.index.ensures
    ∙ sym (get_or-map (λ v. v.items) c.self.inside.held.items c.args.thread _ [] (omega (arith, within, count, same))) in
    ap (λ l. asked l node) own
    ∙ sym (held_lists (map (λ v. v.items) c.self.inside.held.items) c.args.thread node)
    ∙ ap (λ (f : Held). held f.holding c.args.thread node) c.self.view_is
