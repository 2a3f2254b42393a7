use Rattle.std.proofs.Common.{◌<◌, length, string_bytes, sym, ◌∙◌, arith}
use Rattle.std.proofs.lemmas.Bool.{eqb-false}
use Rattle.asl_lists.proofs.Named.{listed_some}
use Rattle.asl_lists.proofs.Texts.{said}
use Rattle.asl_lists.proofs.listed_source.listed.Goals as goal

pub returns-clause-told : goal.returns-clause-told
returns-clause-told c =
    let some : 0 < length c.args.entries.now = omega (arith, eqb-false (length c.args.entries.now) 0 (sym c.is_empty.ensures ∙ c.if-is_empty.false)) in
    said c.listed_entries.result _ _ (λ t h. listed_some string_bytes c.args.source.now c.args.k c.args.entries.now (string_bytes t) some h) c.listed_entries.ensures.told
