use Rattle.std.proofs.Common.{◌≡◌, ◌<◌, length, string_bytes, sym, ◌∙◌, arith}
use Rattle.std.proofs.lemmas.Bool.{eqb-true, eqb-false}
use Rattle.std.proofs.lemmas.Result.{IfOk-weaker, IfErr-weaker}
use Rattle.asl_tool.proofs.Printing.{printed_none, printed_some, refused_none, refused_some}
use Rattle.asl_tool.proofs.commands.c.printed_at.Goals as goal

pub returns-then-is_empty-clause-ok : goal.returns-then-is_empty-clause-ok
returns-then-is_empty-clause-ok c =
    let none : length c.args.entries.now ≡ 0 = eqb-true (length c.args.entries.now) 0 (sym c.is_empty.ensures ∙ c.if-is_empty.true) in
    IfOk-weaker c.printed_whole.result _ _ (λ t h. printed_none string_bytes c.args.source.now c.args.k c.args.externs.now c.args.checks c.args.entries.now t.items none h) c.printed_whole.ensures.ok

pub returns-then-is_empty-clause-err : goal.returns-then-is_empty-clause-err
returns-then-is_empty-clause-err c =
    let none : length c.args.entries.now ≡ 0 = eqb-true (length c.args.entries.now) 0 (sym c.is_empty.ensures ∙ c.if-is_empty.true) in
    IfErr-weaker c.printed_whole.result _ _ (λ f h. refused_none string_bytes c.args.source.now c.args.k c.args.externs.now c.args.entries.now f none h) c.printed_whole.ensures.err

pub returns-clause-ok : goal.returns-clause-ok
returns-clause-ok c =
    let some : 0 < length c.args.entries.now = omega (arith, eqb-false (length c.args.entries.now) 0 (sym c.is_empty.ensures ∙ c.if-is_empty.false)) in
    IfOk-weaker c.printed_entries.result _ _ (λ t h. printed_some string_bytes c.args.source.now c.args.k c.args.externs.now c.args.checks c.args.entries.now t.items some h) c.printed_entries.ensures.ok

pub returns-clause-err : goal.returns-clause-err
returns-clause-err c =
    let some : 0 < length c.args.entries.now = omega (arith, eqb-false (length c.args.entries.now) 0 (sym c.is_empty.ensures ∙ c.if-is_empty.false)) in
    IfErr-weaker c.printed_entries.result _ _ (λ f h. refused_some string_bytes c.args.source.now c.args.k c.args.externs.now c.args.entries.now f some h) c.printed_entries.ensures.err
