use Rattle.std.proofs.Common.{◌∙◌, refl, sym, arith}
use Rattle.asl_backward_flow.specs.Found.{table, locks_of, IsNamed}
use Rattle.asl_backward_flow.specs.Follows.{read}
use Rattle.asl_backward_flow.proofs.Points.{stands_at}
use Rattle.asl_backward_flow.proofs.Each.{no_span}
use Rattle.asl_backward_flow.proofs.Entries.{entry_ok, entry_err, entry_none, not_both}
use Rattle.asl_backward_flow.proofs.call_needs.add_entry.Goals as goal

pub returns-in-Body-clause-ok : goal.returns-in-Body-clause-ok
returns-in-Body-clause-ok c =
    let there = stands_at c.args.analysis.now.spans.now c.args.analysis.now.spans.now c.from.result c.args.part no_span refl c.from.ensures c.requires.there in
    let t = c.if-pc-span.true in
    entry_ok (read c.args.analysis.now) c.args.part c.args.pc (IsNamed (locks_of (table c.args.found.now) c.args.part) c.args.set.now) _ there c.in-Body.function c.in-Body.is (omega (arith, t)) (table c.args.found.now) (table c.add_all_calls.new.found) c.add_all_calls.result c.add_all_calls.ensures.ok

pub returns-in-Body-clause-err : goal.returns-in-Body-clause-err
returns-in-Body-clause-err c =
    let there = stands_at c.args.analysis.now.spans.now c.args.analysis.now.spans.now c.from.result c.args.part no_span refl c.from.ensures c.requires.there in
    let t = c.if-pc-span.true in
    entry_err (read c.args.analysis.now) c.args.part c.args.pc (IsNamed (locks_of (table c.args.found.now) c.args.part) c.args.set.now) _ there c.in-Body.function c.in-Body.is (omega (arith, t)) (table c.args.found.now) (table c.add_all_calls.new.found) c.add_all_calls.result c.add_all_calls.ensures.err

pub returns-in_default-clause-ok : goal.returns-in_default-clause-ok
returns-in_default-clause-ok c =
    let there = stands_at c.args.analysis.now.spans.now c.args.analysis.now.spans.now c.from.result c.args.part no_span refl c.from.ensures c.requires.there in
    entry_none (read c.args.analysis.now) c.args.part c.args.pc (IsNamed (locks_of (table c.args.found.now) c.args.part) c.args.set.now) _ there (table c.args.found.now) c.requires.ready (λ g is e. let f = c.if-pc-span.false in omega (arith, f, e))

pub returns-in_default-2-clause-ok : goal.returns-in_default-2-clause-ok
returns-in_default-2-clause-ok c =
    let there = stands_at c.args.analysis.now.spans.now c.args.analysis.now.spans.now c.from.result c.args.part no_span refl c.from.ensures c.requires.there in
    entry_none (read c.args.analysis.now) c.args.part c.args.pc (IsNamed (locks_of (table c.args.found.now) c.args.part) c.args.set.now) _ there (table c.args.found.now) c.requires.ready (λ g is e. not_both _ g (sym c.in_default.is ∙ is))
