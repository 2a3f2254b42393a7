use Rattle.std.proofs.Common.{Option, ℕ, map, string_bytes, subst}
use Rattle.std.specs.Prelude.{IfOk, IfErr}
use Rattle.asl_tool.specs.C.{IsPrinted, IsRefusedPrinting}
use Rattle.asl_tool.proofs.commands.c.printed.Goals as goal

pub returns-clause-ok : goal.returns-clause-ok
returns-clause-ok c =
    subst (λ (k : Option ℕ). IfOk c.printed_at.result (λ text. IsPrinted c.args.source.now k c.args.checks (map string_bytes c.args.entries.now) c.args.externs.now text.items))
    c.limit_of-limit.ensures.value c.printed_at.ensures.ok

pub returns-clause-err : goal.returns-clause-err
returns-clause-err c =
    subst (λ (k : Option ℕ). IfErr c.printed_at.result (λ f. IsRefusedPrinting c.args.source.now k (map string_bytes c.args.entries.now) c.args.externs.now f))
    c.limit_of-limit.ensures.value c.printed_at.ensures.err
