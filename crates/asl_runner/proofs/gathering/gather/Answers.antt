use Rattle.std.proofs.Common.{rules, ◌≡◌, ◌+◌, length, vec_len, arith, ap, ◌∙◌}
use Rattle.std.specs.Vec.Iter.{into_iter_items}
use Rattle.asl_turns.specs.Turn.{Turn}
use Rattle.asl_runner.proofs.Joins.{first_from, first_worked, refused_more, rest_from, rest_worked, work_joined}
use Rattle.asl_runner.proofs.gathering.gather.Goals as goal

pub loop-work-preserved : goal.loop-work-preserved
loop-work-preserved c =
    let inv = c.loop-work.invariant in
    let word = c.args.turns.now in
    let workers = vec_len c.args.works in
    let steps = c.in-Some.ensures.steps in
    let done = vec_len c.loop-work.receipts in
    let rest = into_iter_items c.next.new.self in
    let all = into_iter_items c.loop-work.work-iterator in
    let more : vec_len c.push_reserved.new.self ≡ done + 1 = c.push_reserved.ensures.len in
    let mine = first_worked word c.args.count workers done c.in-Some.work rest all steps.0 inv.6 in
    let one = mine.pass.passes in
    let number : length c.loop-work.receipts.items ≡ done = search rules in
    let left : c.join.new.seat.left ≡ c.loop-work.seat.left + c.in-Some.work.seat.left = ap (λ (t : Turn). t.left) c.join.ensures in
    let spent : c.join.new.seat.spent ≡ c.loop-work.seat.spent + c.in-Some.work.seat.spent = ap (λ (t : Turn). t.spent) c.join.ensures in (
      tt,
      tt,
      omega (arith, more, steps.1, inv.2),
      search rules,
      ap (λ (t : Turn). t.of) c.join.ensures ∙ inv.4,
      omega (arith, left, spent, one, steps.1, inv.5),
      rest_worked word c.args.count workers done (vec_len c.push_reserved.new.self) c.in-Some.work rest all steps.0 more inv.6,
      work_joined word c.args.count workers c.loop-work.seat c.join.new.seat c.loop-work.receipts.items c.push_reserved.new.self.items c.in-Some.work c.loop-work.refused c.join.ensures c.push_reserved.ensures.items (rw number mine) inv.7,
      rest_from done (vec_len c.push_reserved.new.self) c.args.works.items c.in-Some.work rest all steps.0 more inv.8,
      refused_more c.args.works.items done c.in-Some.work c.loop-work.refused (first_from done c.args.works.items c.in-Some.work rest all steps.0 inv.8) inv.9,
    )

pub loop-work-init : goal.loop-work-init
loop-work-init c = (
  tt,
  tt,
  search rules,
  search rules,
  search rules,
  search rules,
  λ k w at.
      let number : vec_len c.in_ok-receipts.receipts + k ≡ k = omega (arith, c.in_ok-receipts.ensures.len) in
      rw number (c.requires.worked k w (search rules)),
  search rules,
  search rules,
  search rules,
)

pub join-requires-clause-other : goal.join-requires-clause-other
join-requires-clause-other c =
    let inv = c.loop-work.invariant in
    let steps = c.in-Some.ensures.steps in
    (first_worked c.args.turns.now c.args.count (vec_len c.args.works) (vec_len c.loop-work.receipts) c.in-Some.work (into_iter_items c.next.new.self) (into_iter_items c.loop-work.work-iterator) steps.0 inv.6).pass.of
