use Rattle.std.proofs.Common.{rules}
use Rattle.std.specs.List.{Contains}
use Rattle.std.proofs.lemmas.Option.{slice_get-get_or}
use Rattle.asl_backward_flow.specs.Found.{table, locks_of, IsListed}
use Rattle.asl_backward_flow.specs.Follows.{read}
use Rattle.asl_backward_flow.proofs.Linking.{Linked, named_now, lock_more, lock_stopped, lock_refused, lock_end, changed_all, changed_stopped, changed_refused}
use Rattle.asl_backward_flow.proofs.needs_step.add_changed.Goals as goal

pub lock-requires-clause-named : goal.lock-requires-clause-named
lock-requires-clause-named c = named_now (read c.args.analysis.now) (Linked (read c.args.analysis.now) c.args.part c.args.pc) c.args.part (Contains c.args.numbers.now) (table c.args.found.now) c.requires.named c.args.numbers.now (λ k. (λ h. h, λ h. h)) (table c.loop-number.found) c.loop-number.number-index c.loop-number.invariant _ (slice_get-get_or c.args.numbers.now c.loop-number.number-index 0 c.loop-number-test.true)

pub loop-number-preserved : goal.loop-number-preserved
loop-number-preserved c = lock_more (read c.args.analysis.now) (Linked (read c.args.analysis.now) c.args.part c.args.pc) c.args.part (Contains c.args.numbers.now) (table c.args.found.now) c.requires.named c.args.numbers.now (λ k. (λ h. h, λ h. h)) (table c.loop-number.found) c.loop-number.number-index c.loop-number.invariant _ (slice_get-get_or c.args.numbers.now c.loop-number.number-index 0 c.loop-number-test.true) c.in_ok-lock.lock c.in_ok-lock.ensures (table c.add_link.new.found) c.in_ok-add_link.ensures.ok

pub returns-in_err-lock-clause-err : goal.returns-in_err-lock-clause-err
returns-in_err-lock-clause-err c =
    let stopped = changed_refused (read c.args.analysis.now) c.args.part c.args.pc (IsListed (locks_of (table c.args.found.now) c.args.part) c.args.numbers.now) (table c.args.found.now) (table c.loop-number.found) (lock_refused (read c.args.analysis.now) (Linked (read c.args.analysis.now) c.args.part c.args.pc) c.args.part (Contains c.args.numbers.now) (table c.args.found.now) c.requires.named c.args.numbers.now (λ k. (λ h. h, λ h. h)) (table c.loop-number.found) c.loop-number.number-index c.loop-number.invariant) in
    search (rules, stopped)

pub returns-in_err-add_link-clause-err : goal.returns-in_err-add_link-clause-err
returns-in_err-add_link-clause-err c =
    let stopped = changed_stopped (read c.args.analysis.now) c.args.part c.args.pc (IsListed (locks_of (table c.args.found.now) c.args.part) c.args.numbers.now) (table c.args.found.now) (table c.add_link.new.found) _ (lock_stopped (read c.args.analysis.now) (Linked (read c.args.analysis.now) c.args.part c.args.pc) c.args.part (Contains c.args.numbers.now) (table c.args.found.now) c.requires.named c.args.numbers.now (λ k. (λ h. h, λ h. h)) (table c.loop-number.found) c.loop-number.number-index c.loop-number.invariant _ (slice_get-get_or c.args.numbers.now c.loop-number.number-index 0 c.loop-number-test.true) c.in_ok-lock.lock c.in_ok-lock.ensures (table c.add_link.new.found) _ c.in_err-add_link.ensures.err) in
    search (rules, stopped)

pub returns-clause-ok : goal.returns-clause-ok
returns-clause-ok c = changed_all (read c.args.analysis.now) c.args.part c.args.pc (IsListed (locks_of (table c.args.found.now) c.args.part) c.args.numbers.now) (table c.args.found.now) (table c.loop-number.found) (lock_end (read c.args.analysis.now) (Linked (read c.args.analysis.now) c.args.part c.args.pc) c.args.part (Contains c.args.numbers.now) (table c.args.found.now) c.requires.named c.args.numbers.now (λ k. (λ h. h, λ h. h)) (table c.loop-number.found) c.loop-number.number-index c.loop-number.invariant c.loop-number-test.false)
