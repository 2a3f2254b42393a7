use Rattle.std.proofs.Common.{IsTrue, sym, subst, ◌∙◌}
use Rattle.asl_lock_forest.specs.Holding.{CanGrant}
use Rattle.asl_lock_forest.specs.Request.{names_once, asks_modes, asks_parents, IsOfClasses}
use Rattle.asl_lock_forest.proofs.Grantable.{can_grant-tells}
use Rattle.asl_machine.specs.Request.{request_of}
use Rattle.asl_machine.proofs.RequestEntries.{request_names_once, request_asks_modes, request_asks_parents, request_is_of_classes}
use Rattle.asl_machine.proofs.sections.enter.Goals as goal

pub grant-requires-clause-distinct : goal.grant-requires-clause-distinct
grant-requires-clause-distinct c =
    subst (λ r. IsTrue (names_once r)) (sym (c.as_slice.ensures.value ∙ c.in_ok-request.ensures.request c.if-branch.true)) (request_names_once c.args.heap.now c.regs.result.now c.args.locks.now)

pub grant-requires-clause-modes : goal.grant-requires-clause-modes
grant-requires-clause-modes c =
    subst (λ r. IsTrue (asks_modes r)) (sym (c.as_slice.ensures.value ∙ c.in_ok-request.ensures.request c.if-branch.true)) (request_asks_modes c.args.heap.now c.regs.result.now c.args.locks.now)

pub grant-requires-clause-parents : goal.grant-requires-clause-parents
grant-requires-clause-parents c =
    subst (λ r. IsTrue (asks_parents r)) (sym (c.as_slice.ensures.value ∙ c.in_ok-request.ensures.request c.if-branch.true)) (request_asks_parents c.args.heap.now c.regs.result.now c.args.locks.now)

pub grant-requires-clause-classes_there : goal.grant-requires-clause-classes_there
grant-requires-clause-classes_there c =
    subst (IsOfClasses c.args.forest.now.classes) (sym (c.as_slice.ensures.value ∙ c.in_ok-request.ensures.request c.if-branch.true))
    (request_is_of_classes c.args.forest.now.classes c.args.heap.now c.regs.result.now c.args.locks.now c.requires.locks c.requires.classes)

pub grant-requires-clause-free : goal.grant-requires-clause-free
grant-requires-clause-free c =
    subst (CanGrant c.args.forest.now.holding c.args.t) (sym (c.as_slice.ensures.value ∙ c.in_ok-request.ensures.request c.if-branch.true))
    (can_grant-tells c.args.forest.now.holding c.args.t (request_of c.args.heap.now c.regs.result.now c.args.locks.now)
    (sym c.in_ok-request.ensures.free ∙ c.if-branch.true))
