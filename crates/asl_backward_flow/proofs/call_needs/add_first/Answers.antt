use Rattle.std.proofs.Common.{rules, ap, ◌∙◌}
use Rattle.std.specs.List.{flat_map}
use Rattle.asl_lock_expr.specs.Links.{dereferenced, IsOne}
use Rattle.asl_backward_flow.specs.Found.{table}
use Rattle.asl_backward_flow.specs.Follows.{read}
use Rattle.asl_backward_flow.proofs.Fronts.{list_added}
use Rattle.asl_backward_flow.proofs.Entering.{entered_numbers, entered_ok, entered_stopped, entered_first}
use Rattle.asl_backward_flow.proofs.call_needs.add_first.Goals as goal

pub returns-clause-numbers : goal.returns-clause-numbers
returns-clause-numbers c =
    entered_numbers (read c.args.analysis.now) (table c.add_listed.new.self) (table c.add_listed-2.new.self) c.args.part c.args.pc (IsOne c.args.locks.now) c.in_ok-entered.entered.items c.in_ok-fronts.fronts.items
    (c.in_ok-fronts.ensures ∙ ap (flat_map dereferenced) c.deref.ensures.value) c.in_ok-entered.ensures _ c.add_listed.new.numbers c.add_listed-2.new.numbers c.new-numbers.ensures
    c.in_ok-add_listed-2.ensures.adds.grows c.in_ok-add_listed.ensures.numbers c.in_ok-add_listed-2.ensures.numbers

pub returns-clause-ok : goal.returns-clause-ok
returns-clause-ok c =
    let first = list_added (read c.args.analysis.now) (table c.args.found.now) (table c.add_listed.new.self) c.args.part c.args.pc c.in_ok-entered.entered.items c.requires.ready
    c.in_ok-add_listed.ensures.whole c.in_ok-add_listed.ensures.has c.in_ok-add_listed.ensures.lists c.in_ok-add_listed.ensures.adds in
    entered_ok (read c.args.analysis.now) (table c.args.found.now) (table c.add_listed.new.self) (table c.add_listed-2.new.self) c.args.part c.args.pc (IsOne c.args.locks.now) c.in_ok-entered.entered.items c.in_ok-fronts.fronts.items
    (c.in_ok-fronts.ensures ∙ ap (flat_map dereferenced) c.deref.ensures.value) c.in_ok-entered.ensures first
    (list_added (read c.args.analysis.now) (table c.add_listed.new.self) (table c.add_listed-2.new.self) c.args.part c.args.pc c.in_ok-fronts.fronts.items first.ready
    c.in_ok-add_listed-2.ensures.whole c.in_ok-add_listed-2.ensures.has c.in_ok-add_listed-2.ensures.lists c.in_ok-add_listed-2.ensures.adds)

pub returns-in_err-add_listed-clause-err : goal.returns-in_err-add_listed-clause-err
returns-in_err-add_listed-clause-err c =
    let stopped = entered_first (read c.args.analysis.now) (table c.args.found.now) (table c.add_listed.new.self) (table c.add_listed.new.self) c.args.part c.args.pc (IsOne c.args.locks.now) c.in_ok-entered.entered.items c.in_ok-fronts.fronts.items
    (c.in_ok-fronts.ensures ∙ ap (flat_map dereferenced) c.deref.ensures.value) c.in_ok-entered.ensures _ (record { adds = c.in_err-add_listed.ensures.adds; over = c.in_err-add_listed.ensures.over }) in
    search (rules, stopped)

pub returns-in_err-add_listed-2-clause-err : goal.returns-in_err-add_listed-2-clause-err
returns-in_err-add_listed-2-clause-err c =
    let first = list_added (read c.args.analysis.now) (table c.args.found.now) (table c.add_listed.new.self) c.args.part c.args.pc c.in_ok-entered.entered.items c.requires.ready
    c.in_ok-add_listed.ensures.whole c.in_ok-add_listed.ensures.has c.in_ok-add_listed.ensures.lists c.in_ok-add_listed.ensures.adds in
    let stopped = entered_stopped (read c.args.analysis.now) (table c.args.found.now) (table c.add_listed.new.self) (table c.add_listed-2.new.self) c.args.part c.args.pc (IsOne c.args.locks.now) c.in_ok-entered.entered.items c.in_ok-fronts.fronts.items
    (c.in_ok-fronts.ensures ∙ ap (flat_map dereferenced) c.deref.ensures.value) c.in_ok-entered.ensures first _ (record { adds = c.in_err-add_listed-2.ensures.adds; over = c.in_err-add_listed-2.ensures.over }) in
    search (rules, stopped)
