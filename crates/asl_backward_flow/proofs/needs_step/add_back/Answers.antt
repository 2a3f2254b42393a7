use Rattle.std.proofs.Common.{◌+◌, rules, arith, sym, ap, ◌∙◌, subst}
use Rattle.asl_backward_flow.specs.Graph.{IsEdge}
use Rattle.asl_backward_flow.specs.Found.{table, locks_of, IsNamed}
use Rattle.asl_backward_flow.specs.Follows.{read, AreBefore, AddedBelow}
use Rattle.asl_backward_flow.proofs.Closing.{point_in_code}
use Rattle.asl_backward_flow.proofs.Fronts.{chosen_later}
use Rattle.asl_backward_flow.proofs.Points.{read_at}
use Rattle.asl_backward_flow.proofs.Befores.{each_back, linked_before, back_more, back_stopped, back_end}
use Rattle.asl_backward_flow.proofs.needs_step.add_back.Goals as goal

pub add_linked-requires-clause-point : goal.add_linked-requires-clause-point
add_linked-requires-clause-point c =
    let at = read_at c.loop-number.scratch.pcs.items c.loop-number.number c.index-before.result.now (omega (arith, c.loop-number-test.true, c.loop-number.invariant.all)) c.index-before.ensures in
    (c.loop-number.invariant.before.only _ (c.loop-number.number, at)).0

pub add_linked-requires-clause-code : goal.add_linked-requires-clause-code
add_linked-requires-clause-code c =
    let at = read_at c.loop-number.scratch.pcs.items c.loop-number.number c.index-before.result.now (omega (arith, c.loop-number-test.true, c.loop-number.invariant.all)) c.index-before.ensures in
    point_in_code (read c.args.analysis.now) c.requires.analysis c.args.part _ (c.loop-number.invariant.before.only _ (c.loop-number.number, at)).0

pub add_linked-requires-clause-chosen : goal.add_linked-requires-clause-chosen
add_linked-requires-clause-chosen c =
    let at = read_at c.loop-number.scratch.pcs.items c.loop-number.number c.index-before.result.now (omega (arith, c.loop-number-test.true, c.loop-number.invariant.all)) c.index-before.ensures in
    let before = c.loop-number.invariant.before.only _ (c.loop-number.number, at) in
    rw c.loop-number.invariant.set
    (chosen_later (table c.args.found.now) (table c.loop-number.found) c.args.part c.loop-number.invariant.added.adds.grows c.args.scratch.now.set _ _
    (linked_before (read c.args.analysis.now) (table c.args.found.now) (table c.loop-number.found) c.args.part c.args.pc _ c.loop-number.invariant.added.adds.grows before.0 before.1) c.requires.chosen)

pub loop-number-preserved : goal.loop-number-preserved
loop-number-preserved c =
    let at = read_at c.loop-number.scratch.pcs.items c.loop-number.number c.index-before.result.now (omega (arith, c.loop-number-test.true, c.loop-number.invariant.all)) c.index-before.ensures in
    let pcs = ap (λ v. v.items) c.add_linked.ensures.pcs in
    record {
      added = subst (λ xs. AddedBelow (read c.args.analysis.now) (table c.args.found.now) (table c.add_linked.new.found) (each_back (read c.args.analysis.now) c.args.part (IsNamed (locks_of (table c.args.found.now) c.args.part) c.args.scratch.now.set) xs) (c.loop-number.number + 1)) (sym pcs)
          (back_more (read c.args.analysis.now) (table c.args.found.now) (table c.loop-number.found) (table c.add_linked.new.found) c.args.part c.args.scratch.now.set _ c.requires.chosen c.loop-number.scratch.pcs.items c.loop-number.number _ at (c.loop-number.invariant.before.only _ (c.loop-number.number, at)).0 c.loop-number.invariant.added (rw c.loop-number.invariant.set at c.in_ok-add_linked.ensures.ok));
      masks = c.in_ok-add_linked.ensures.masks;
      set = c.add_linked.ensures.set ∙ c.loop-number.invariant.set;
      before = subst (AreBefore (read c.args.analysis.now) c.args.part c.args.pc (IsEdge c.args.analysis.now.lowering.now c.args.pc)) (sym pcs) c.loop-number.invariant.before;
      all = rw pcs c.loop-number.invariant.all;
    }

pub returns-in_err-add_linked-clause-err : goal.returns-in_err-add_linked-clause-err
returns-in_err-add_linked-clause-err c =
    let at = read_at c.loop-number.scratch.pcs.items c.loop-number.number c.index-before.result.now (omega (arith, c.loop-number-test.true, c.loop-number.invariant.all)) c.index-before.ensures in
    let stopped = back_stopped (read c.args.analysis.now) (table c.args.found.now) (table c.loop-number.found) (table c.add_linked.new.found) c.args.part c.args.scratch.now.set _ c.requires.chosen c.loop-number.scratch.pcs.items c.loop-number.number _ at (c.loop-number.invariant.before.only _ (c.loop-number.number, at)).0 c.loop-number.invariant.added c.args.pc _ c.loop-number.invariant.before (rw c.loop-number.invariant.set at c.in_err-add_linked.ensures.err) in
    search (rules, stopped)

pub returns-clause-ok : goal.returns-clause-ok
returns-clause-ok c = back_end (read c.args.analysis.now) (table c.args.found.now) (table c.loop-number.found) c.args.part c.args.pc c.loop-number.number _ c.loop-number.scratch.pcs.items c.loop-number.invariant.before (omega (arith, c.loop-number-test.false, c.loop-number.invariant.all)) c.loop-number.invariant.added
