use Rattle.std.proofs.Common.{◌≡◌, ◌<◌, ◌==◌, true, [], length, slice_index_or, ap, sym, subst, ◌∙◌, inl, inr, arith}
use Rattle.std.proofs.lemmas.Bool.{eqb-true}
use Rattle.std.proofs.lemmas.Bool.Decides.{eqb_tells}
use Rattle.std.proofs.lemmas.List.{length-map}
use Rattle.asl_lock_forest.specs.Holding.{HoldsNothing}
use Rattle.asl_lock_queue.specs.Lines.{held_of}
use Rattle.asl_lock_queue.proofs.HolderLaws.{empty_holds_nothing, nothing_empty_list}
use Rattle.asl_lock_queue.proofs.SeatLaws.{own_at, empty_list}
use Rattle.asl_lock_queue.proofs.queue.Queue.holds_nothing.Goals as goal

pub returns : goal.returns
returns c =
    let seats = c.self.inside.seats in
    let t = c.args.thread in
    let list = c.index.result.now in
    let below = c.requires in
    let count = ap (λ q. q.threads) c.self.view_is in
    let lists = c.self.invariant.lined.held_there in
    let long = length-map seats.held.items (λ v. v.items) in
    let sized = list.ok.0 in
    let own : list.items ≡ slice_index_or (held_of seats) t [] = own_at (λ v. v.items) seats.held.items t list [] (omega (arith, below, count, lists, long)) c.index.ensures in (
      (λ yes.
          let none = eqb-true list.len 0 (sym c.is_empty.ensures ∙ yes) in
          subst (λ q. HoldsNothing q.holding t) c.self.view_is
          (empty_holds_nothing (held_of seats) t (sym own ∙ empty_list list.items (omega (arith, none, sized))))),
      (λ nothing.
          let none : list.items ≡ [] = own ∙ nothing_empty_list (held_of seats) t (subst (λ q. HoldsNothing q.holding t) (sym c.self.view_is) nothing) in
          let short : length list.items ≡ 0 = ap length none in
          c.is_empty.ensures ∙ elim (eqb_tells list.len 0) [
            | inl same ↦ same.0
            | inr apart ↦ absurd (apart.1 (omega (arith, short, sized)))
          ]),
    )
