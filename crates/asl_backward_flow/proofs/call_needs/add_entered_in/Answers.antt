use Rattle.std.proofs.Common.{Some, refl, ap, sym, subst, ◌∙◌}
use Rattle.std.proofs.lemmas.Option.{slice_get_within}
use Rattle.asl_lock_expr.specs.Links.{IsOne}
use Rattle.asl_backward_flow.specs.Entering.{AreEntered}
use Rattle.asl_backward_flow.specs.Found.{table}
use Rattle.asl_backward_flow.specs.Follows.{read}
use Rattle.asl_backward_flow.proofs.Points.{stands_at}
use Rattle.asl_backward_flow.proofs.Entering.{ok_any, all_grow, all_push, found_here, numbered_ok, numbered_err}
use Rattle.asl_backward_flow.proofs.call_needs.add_entered_in.Goals as goal

pub returns-in-Some-clause-known : goal.returns-in-Some-clause-known
returns-in-Some-clause-known c =
    ok_any c.add_numbered.result _ (all_grow (read c.args.analysis.now) (table c.args.found.now) (table c.add_numbered.new.self) (IsOne c.args.locks.now) c.args.known.now.list.items c.add_numbered.ensures.adds.grows c.requires.known)

pub returns-in-Some-clause-ok : goal.returns-in-Some-clause-ok
returns-in-Some-clause-ok c =
    let items = c.args.known.now.list.items in
    let place = c.in-Some.place in
    let at = stands_at items items place place c.index.result.now refl refl (slice_get_within items place c.in-Some.ensures.0 c.in-Some.ensures.1) ∙ ap Some (sym c.index.ensures) in
    let here = found_here (read c.args.analysis.now) (table c.args.found.now) c.args.part c.args.pc (IsOne c.args.locks.now) items place c.in-Some.ensures c.requires.known c.index.result.now at in
    numbered_ok (read c.args.analysis.now) (table c.args.found.now) (table c.add_numbered.new.self) c.args.part c.args.pc c.index.result.now.numbers _ here.only c.add_numbered.ensures.adds here.all c.requires.ready
    c.add_numbered.result c.add_numbered.ensures.whole c.add_numbered.ensures.has c.add_numbered.ensures.lists

pub returns-in-Some-clause-err : goal.returns-in-Some-clause-err
returns-in-Some-clause-err c =
    let items = c.args.known.now.list.items in
    let place = c.in-Some.place in
    let at = stands_at items items place place c.index.result.now refl refl (slice_get_within items place c.in-Some.ensures.0 c.in-Some.ensures.1) ∙ ap Some (sym c.index.ensures) in
    let here = found_here (read c.args.analysis.now) (table c.args.found.now) c.args.part c.args.pc (IsOne c.args.locks.now) items place c.in-Some.ensures c.requires.known c.index.result.now at in
    numbered_err (read c.args.analysis.now) (table c.args.found.now) (table c.add_numbered.new.self) c.args.part c.args.pc c.index.result.now.numbers _ here.only c.add_numbered.ensures.adds
    c.add_numbered.result c.add_numbered.ensures.over

pub returns-clause-known : goal.returns-clause-known
returns-clause-known c =
    let grown = all_grow (read c.args.analysis.now) (table c.args.found.now) (table c.add_first.new.found) (IsOne c.args.locks.now) c.args.known.now.list.items c.in_ok-numbers.ensures.ok.adds.grows c.requires.known in
    subst (AreEntered (read c.args.analysis.now) (table c.add_first.new.found) (IsOne c.args.locks.now)) (sym c.in_ok-put.ensures.1)
    (all_push (read c.args.analysis.now) (table c.add_first.new.found) (IsOne c.args.locks.now) c.args.known.now.list.items _ grown c.in_ok-numbers.ensures.numbers)
