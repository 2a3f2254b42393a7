use Rattle.std.proofs.Common.{◌≡◌, ◌↔◌, List, vec_len, length, sym, subst, ◌∙◌, arith}
use Rattle.std.proofs.lemmas.Bool.{eqb-true}
use Rattle.asl_code.specs.declared.lock.Lock.{Lock}
use Rattle.asl_lock_expr.specs.Links.{IsOne}
use Rattle.asl_backward_flow.specs.Found.{table, locks_of, IsNamed}
use Rattle.asl_backward_flow.specs.Follows.{read}
use Rattle.asl_backward_flow.proofs.Adding.{added_none}
use Rattle.asl_backward_flow.proofs.Entering.{no_one, calls_ok, calls_err}
use Rattle.asl_backward_flow.proofs.call_needs.add_all_calls.Goals as goal

pub returns-then-is_empty-clause-ok : goal.returns-then-is_empty-clause-ok
returns-then-is_empty-clause-ok c =
    let none = eqb-true (vec_len c.in_ok-locks.locks) 0 (sym c.is_empty.ensures ∙ c.if-is_empty.true) in
    let count : length c.in_ok-locks.locks.items ≡ 0 = omega (arith, none, c.in_ok-locks.locks.ok.0) in
    added_none (read c.args.analysis.now) (table c.args.found.now) _ c.requires.ready (λ p q m h. no_one c.in_ok-locks.locks.items count h.0 ((c.in_ok-locks.ensures h.0).1 h.1))

pub returns-clause-ok : goal.returns-clause-ok
returns-clause-ok c =
    let such = IsNamed (locks_of (table c.args.found.now) c.args.part) c.args.set.now in
    calls_ok (read c.args.analysis.now) (table c.args.found.now) (table c.add_calls.new.found) c.args.function (IsOne c.as_slice.result.now) such
    (subst (λ (l : List Lock). (m : Lock) → IsOne l m ↔ such m) (sym c.as_slice.ensures.value) c.in_ok-locks.ensures) c.add_calls.result c.add_calls.ensures.ok

pub returns-clause-err : goal.returns-clause-err
returns-clause-err c =
    let such = IsNamed (locks_of (table c.args.found.now) c.args.part) c.args.set.now in
    calls_err (read c.args.analysis.now) (table c.args.found.now) (table c.add_calls.new.found) c.args.function (IsOne c.as_slice.result.now) such
    (subst (λ (l : List Lock). (m : Lock) → IsOne l m ↔ such m) (sym c.as_slice.ensures.value) c.in_ok-locks.ensures) c.add_calls.result c.add_calls.ensures.err
