use Rattle.std.proofs.Common.{◌∙◌, arith, ap, Err}
use Rattle.std.proofs.lemmas.List.{take_rest}
use Rattle.asl_journal.proofs.Values.{taken_is, short_is, bad_is}
use Rattle.asl_journal.proofs.journal_fields.value_at.Goals as goal

pub returns-in-Ok : goal.returns-in-Ok
returns-in-Ok c = rw (take_rest c.args.bytes.now c.in-Ok.count) (taken_is c.args.bytes.now c.in-Ok.value c.in-Ok.count c.in-Ok.ensures.found)

pub returns-in-Err-Short : goal.returns-in-Err-Short
returns-in-Err-Short c = short_is c.args.bytes.now (c.get_value.ensures.short.0 (c.in-Err-Short.is ∙ ap (λ f. Err f) c.in-Err-Short.field-0-is))

pub returns-in-Err-Bad : goal.returns-in-Err-Bad
returns-in-Err-Bad c =
    let h = bad_is c.args.bytes.now c.get_value.result (λ i. omega (arith, c.type_inv.bytes i)) c.get_value.ensures.only c.get_value.ensures.short (c.in-Err-Bad.is ∙ ap (λ f. Err f) c.in-Err-Bad.field-0-is) in
    rw c.bad.ensures h
