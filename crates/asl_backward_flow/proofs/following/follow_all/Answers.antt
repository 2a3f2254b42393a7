use Rattle.std.proofs.Common.{rules, map, refl, sym, subst}
use Rattle.asl_backward_flow.specs.Found.{table, Table, NoneWaits, IsNext}
use Rattle.asl_backward_flow.specs.Follows.{read, IsFollowed}
use Rattle.asl_backward_flow.proofs.Closing.{some_of, none_of, next_followed, next_stopped, next_masks, followed_end}
use Rattle.asl_backward_flow.proofs.Masking.{masks_none}
use Rattle.asl_backward_flow.proofs.following.follow_all.Goals as goal

pub loop-scratch-init : goal.loop-scratch-init
loop-scratch-init c = record {
  followed = c.requires.followed;
  masks = masks_none (read c.args.analysis.now) (table c.args.found.now) _ _ c.in_ok-scratch.ensures refl;
}

pub next-requires : goal.next-requires
next-requires c = c.loop-scratch.invariant.followed.ready.whole

pub follow-requires-clause-there : goal.follow-requires-clause-there
follow-requires-clause-there c = (some_of _ c.in-Some.point (λ f. IsNext (table c.loop-scratch.found) (table c.next.new.self) f c.next.new.set) c.in-Some.is c.in_ok-point.ensures.some).there

pub follow-requires-clause-within : goal.follow-requires-clause-within
follow-requires-clause-within c = (some_of _ c.in-Some.point (λ f. IsNext (table c.loop-scratch.found) (table c.next.new.self) f c.next.new.set) c.in-Some.is c.in_ok-point.ensures.some).within

pub follow-requires-clause-taken : goal.follow-requires-clause-taken
follow-requires-clause-taken c = (some_of _ c.in-Some.point (λ f. IsNext (table c.loop-scratch.found) (table c.next.new.self) f c.next.new.set) c.in-Some.is c.in_ok-point.ensures.some).taken

pub follow-requires-clause-followed : goal.follow-requires-clause-followed
follow-requires-clause-followed c =
    next_followed (read c.args.analysis.now) (table c.loop-scratch.found) (table c.next.new.self) c.in-Some.point c.next.new.set
    (some_of _ c.in-Some.point (λ f. IsNext (table c.loop-scratch.found) (table c.next.new.self) f c.next.new.set) c.in-Some.is c.in_ok-point.ensures.some) c.loop-scratch.invariant.followed

pub follow-requires-clause-masks : goal.follow-requires-clause-masks
follow-requires-clause-masks c =
    next_masks (read c.args.analysis.now) (table c.loop-scratch.found) (table c.next.new.self) c.in-Some.point c.next.new.set (map (λ v. v.list.items) c.loop-scratch.scratch.masks.items)
    (some_of _ c.in-Some.point (λ f. IsNext (table c.loop-scratch.found) (table c.next.new.self) f c.next.new.set) c.in-Some.is c.in_ok-point.ensures.some) c.loop-scratch.invariant.masks

pub returns-clause-ok : goal.returns-clause-ok
returns-clause-ok c =
    subst (λ (t : Table). IsFollowed (read c.args.analysis.now) t NoneWaits) (sym (none_of _ _ c.in_default.not-Some c.in_ok-point.ensures.unchanged))
    (followed_end (read c.args.analysis.now) (table c.loop-scratch.found) (none_of _ _ c.in_default.not-Some c.in_ok-point.ensures.none) c.loop-scratch.invariant.followed)

pub returns-in_err-point-clause-err : goal.returns-in_err-point-clause-err
returns-in_err-point-clause-err c =
    let over = next_stopped (read c.args.analysis.now) (table c.loop-scratch.found) (table c.next.new.self) _ refl c.in_err-point.ensures.err c.loop-scratch.invariant.followed in
    search (rules, over)
