use Rattle.std.proofs.Common.{List, ℕ, rules, map, subst, OnOk, IfErr}
use Rattle.std.specs.List.{Contains}
use Rattle.asl_backward_flow.specs.Found.{table, locks_of, IsListed}
use Rattle.asl_backward_flow.specs.Follows.{read, At, IsLinkedOf, Added, Stopped}
use Rattle.asl_backward_flow.proofs.Adding.{ready_still}
use Rattle.asl_backward_flow.proofs.Linking.{stay_stopped, changed_named, linked_ok, linked_err, masks_ok}
use Rattle.asl_backward_flow.proofs.Splitting.{none_ok, none_err, none_masks}
use Rattle.asl_backward_flow.proofs.needs_step.add_linked.Goals as goal

pub add_numbered-requires-clause-named : goal.add_numbered-requires-clause-named
add_numbered-requires-clause-named c n h = c.requires.chosen.named n ((c.in_ok-changes.ensures.some c.if-changes.true).within n h)

pub returns-in_err-add_numbered-clause-err : goal.returns-in_err-add_numbered-clause-err
returns-in_err-add_numbered-clause-err c =
    let stopped = stay_stopped (read c.args.analysis.now) (table c.args.found.now) (table c.add_numbered.new.self) (table c.add_numbered.new.self) c.args.part c.args.pc c.args.scratch.now.set c.split_over.new.scratch.stay c.split_over.new.scratch.changed.items c.requires.chosen (c.in_ok-changes.ensures.some c.if-changes.true) _ c.in_err-add_numbered.ensures.adds c.in_err-add_numbered.ensures.over in
    search (rules, stopped)

pub add_changed-requires-clause-ready : goal.add_changed-requires-clause-ready
add_changed-requires-clause-ready c = ready_still (read c.args.analysis.now) (table c.args.found.now) (table c.add_numbered.new.self) _ c.requires.ready c.in_ok-add_numbered.ensures.adds c.in_ok-add_numbered.ensures.whole

pub add_changed-requires-clause-named : goal.add_changed-requires-clause-named
add_changed-requires-clause-named c n h =
    changed_named (read c.args.analysis.now) (table c.args.found.now) (table c.add_numbered.new.self) (table c.add_numbered.new.self) c.args.part c.args.pc c.args.scratch.now.set c.split_over.new.scratch.stay c.split_over.new.scratch.changed.items c.requires.chosen (c.in_ok-changes.ensures.some c.if-changes.true) c.in_ok-add_numbered.ensures.adds n (subst (λ (l : List ℕ). Contains l n) c.deref.ensures.value h)

pub returns-then-changes-clause-ok : goal.returns-then-changes-clause-ok
returns-then-changes-clause-ok c =
    linked_ok (read c.args.analysis.now) (table c.args.found.now) (table c.add_numbered.new.self) (table c.add_changed.new.found) c.args.part c.args.pc c.args.scratch.now.set c.split_over.new.scratch.stay c.split_over.new.scratch.changed.items c.requires.chosen (c.in_ok-changes.ensures.some c.if-changes.true) c.in_ok-add_numbered.ensures.adds c.in_ok-add_numbered.ensures.has c.in_ok-add_numbered.ensures.lists c.add_changed.result
    (subst (λ (l : List ℕ). OnOk c.add_changed.result (Added (read c.args.analysis.now) (table c.add_numbered.new.self) (table c.add_changed.new.found) (At c.args.part c.args.pc (IsLinkedOf (read c.args.analysis.now) c.args.part c.args.pc (IsListed (locks_of (table c.add_numbered.new.self) c.args.part) l))))) c.deref.ensures.value c.add_changed.ensures.ok)

pub returns-then-changes-clause-err : goal.returns-then-changes-clause-err
returns-then-changes-clause-err c =
    linked_err (read c.args.analysis.now) (table c.args.found.now) (table c.add_numbered.new.self) (table c.add_changed.new.found) c.args.part c.args.pc c.args.scratch.now.set c.split_over.new.scratch.stay c.split_over.new.scratch.changed.items c.requires.chosen (c.in_ok-changes.ensures.some c.if-changes.true) c.in_ok-add_numbered.ensures.adds c.add_changed.result
    (subst (λ (l : List ℕ). IfErr c.add_changed.result (Stopped (table c.add_numbered.new.self) (table c.add_changed.new.found) (At c.args.part c.args.pc (IsLinkedOf (read c.args.analysis.now) c.args.part c.args.pc (IsListed (locks_of (table c.add_numbered.new.self) c.args.part) l))))) c.deref.ensures.value c.add_changed.ensures.err)

pub returns-then-changes-clause-masks : goal.returns-then-changes-clause-masks
returns-then-changes-clause-masks c =
    masks_ok (read c.args.analysis.now) (table c.args.found.now) (table c.add_numbered.new.self) (table c.add_changed.new.found) (map (λ v. v.list.items) c.split_over.new.scratch.masks.items) _ _ c.in_ok-changes.ensures.masks c.in_ok-add_numbered.ensures.adds c.add_changed.result c.add_changed.ensures.ok

pub add_numbered-requires-2-clause-named : goal.add_numbered-requires-2-clause-named
add_numbered-requires-2-clause-named c n h = c.requires.chosen.named n (rw c.split_over.ensures.set at h)

pub returns-clause-ok : goal.returns-clause-ok
returns-clause-ok c =
    none_ok (read c.args.analysis.now) (table c.args.found.now) (table c.add_numbered-2.new.self) c.args.part c.args.pc c.args.scratch.now.set c.requires.chosen (c.in_ok-changes.ensures.none c.if-changes.false) (rw c.split_over.ensures.set at c.add_numbered-2.ensures.adds) c.requires.ready c.add_numbered-2.result (rw c.split_over.ensures.set at c.add_numbered-2.ensures.has) c.add_numbered-2.ensures.lists c.add_numbered-2.ensures.whole

pub returns-clause-err : goal.returns-clause-err
returns-clause-err c = none_err (read c.args.analysis.now) (table c.args.found.now) (table c.add_numbered-2.new.self) c.args.part c.args.pc c.args.scratch.now.set c.requires.chosen (c.in_ok-changes.ensures.none c.if-changes.false) (rw c.split_over.ensures.set at c.add_numbered-2.ensures.adds) c.add_numbered-2.result c.add_numbered-2.ensures.over

pub returns-clause-masks : goal.returns-clause-masks
returns-clause-masks c =
    none_masks (read c.args.analysis.now) (table c.args.found.now) (table c.add_numbered-2.new.self) c.args.part c.args.pc c.args.scratch.now.set c.requires.chosen (c.in_ok-changes.ensures.none c.if-changes.false) (rw c.split_over.ensures.set at c.add_numbered-2.ensures.adds) (map (λ v. v.list.items) c.split_over.new.scratch.masks.items) c.in_ok-changes.ensures.masks c.add_numbered-2.result
