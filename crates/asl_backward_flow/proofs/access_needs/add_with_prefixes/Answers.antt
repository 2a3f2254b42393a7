use Rattle.std.proofs.Common.{◌≡◌, rules, vec_len, length, ap, sym, ◌∙◌, arith}
use Rattle.std.proofs.lemmas.Bool.{eqb-true}
use Rattle.std.specs.List.{flat_map}
use Rattle.asl_lock_expr.specs.Links.{dereferenced}
use Rattle.asl_backward_flow.specs.Found.{table}
use Rattle.asl_backward_flow.specs.Follows.{read}
use Rattle.asl_backward_flow.proofs.Adding.{added_none, added_list, stopped_list}
use Rattle.asl_backward_flow.proofs.Fronts.{fronts_none, list_added, with_ok, with_err, with_stopped}
use Rattle.asl_backward_flow.proofs.access_needs.add_with_prefixes.Goals as goal

pub returns-clause-ok : goal.returns-clause-ok
returns-clause-ok c =
    let first = list_added (read c.args.analysis.now) (table c.args.found.now) (table c.add_all.new.self) c.args.part c.args.pc c.args.locks.now.items c.requires.ready
    c.in_ok-add_all.ensures.whole c.in_ok-add_all.ensures.has c.in_ok-add_all.ensures.lists c.in_ok-add_all.ensures.adds in
    with_ok (read c.args.analysis.now) (table c.args.found.now) (table c.add_all.new.self) (table c.add_all-2.new.self) c.args.part c.args.pc c.args.locks.now.items c.in_ok-fronts.fronts.items
    (c.in_ok-fronts.ensures ∙ ap (flat_map dereferenced) c.deref.ensures.value) first c.add_all-2.result
    (added_list (read c.args.analysis.now) (table c.add_all.new.self) (table c.add_all-2.new.self) c.args.part c.args.pc c.in_ok-fronts.fronts.items _ (λ m h. h) (λ m h. h) first.ready
    c.add_all-2.result c.add_all-2.ensures.whole c.add_all-2.ensures.has c.add_all-2.ensures.lists c.add_all-2.ensures.adds)

pub returns-clause-err : goal.returns-clause-err
returns-clause-err c =
    let first = list_added (read c.args.analysis.now) (table c.args.found.now) (table c.add_all.new.self) c.args.part c.args.pc c.args.locks.now.items c.requires.ready
    c.in_ok-add_all.ensures.whole c.in_ok-add_all.ensures.has c.in_ok-add_all.ensures.lists c.in_ok-add_all.ensures.adds in
    with_err (read c.args.analysis.now) (table c.args.found.now) (table c.add_all.new.self) (table c.add_all-2.new.self) c.args.part c.args.pc c.args.locks.now.items c.in_ok-fronts.fronts.items
    (c.in_ok-fronts.ensures ∙ ap (flat_map dereferenced) c.deref.ensures.value) first c.add_all-2.result
    (stopped_list (table c.add_all.new.self) (table c.add_all-2.new.self) c.args.part c.args.pc c.in_ok-fronts.fronts.items _ (λ m h. h) c.add_all-2.result c.add_all-2.ensures.over c.add_all-2.ensures.adds)

pub returns-in_err-add_all-clause-err : goal.returns-in_err-add_all-clause-err
returns-in_err-add_all-clause-err c =
    let stopped = with_stopped (read c.args.analysis.now) (table c.args.found.now) (table c.add_all.new.self) (table c.add_all.new.self) c.args.part c.args.pc c.args.locks.now.items c.in_ok-fronts.fronts.items
    (c.in_ok-fronts.ensures ∙ ap (flat_map dereferenced) c.deref.ensures.value) _ (record { adds = c.in_err-add_all.ensures.adds; over = c.in_err-add_all.ensures.over }) in
    search (rules, stopped)

pub returns-then-is_empty-clause-ok : goal.returns-then-is_empty-clause-ok
returns-then-is_empty-clause-ok c =
    let none = eqb-true (vec_len c.args.locks.now) 0 (sym c.is_empty.ensures ∙ c.if-is_empty.true) in
    let count : length c.args.locks.now.items ≡ 0 = omega (arith, none, c.args.locks.now.ok.0) in
    added_none (read c.args.analysis.now) (table c.args.found.now) _ c.requires.ready (λ p q m h. fronts_none c.args.locks.now.items count m h.2)
