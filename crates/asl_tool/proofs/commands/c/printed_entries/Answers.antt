use Rattle.std.proofs.Common.{map, string_bytes}
use Rattle.std.proofs.lemmas.Result.{IfOk-weaker, IfErr-weaker}
use Rattle.asl_tool.proofs.Printing.{printed_of, refused_of}
use Rattle.asl_tool.proofs.commands.c.printed_entries.Goals as goal

pub returns-in-Ok-clause-ok : goal.returns-in-Ok-clause-ok
returns-in-Ok-clause-ok c =
    IfOk-weaker c.printed_whole.result _ _
    (λ t h. printed_of c.args.source.now c.args.k (map string_bytes c.args.entries.now) c.args.externs.now c.in-Ok.whole c.deref.result.now c.in-Ok.ensures c.deref.ensures.value c.args.checks t.items h)
    c.printed_whole.ensures.ok

pub returns-in-Ok-clause-err : goal.returns-in-Ok-clause-err
returns-in-Ok-clause-err c =
    IfErr-weaker c.printed_whole.result _ _
    (λ f h. refused_of c.args.source.now c.args.k (map string_bytes c.args.entries.now) c.args.externs.now c.in-Ok.whole c.deref.result.now c.in-Ok.ensures c.deref.ensures.value f h)
    c.printed_whole.ensures.err
