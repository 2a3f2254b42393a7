use Rattle.std.proofs.lemmas.Result.{IfErr-weaker}
use Rattle.asl_tool.proofs.Printing.{text_refused}
use Rattle.asl_tool.proofs.commands.c.printed_whole.Goals as goal

pub returns-clause-err : goal.returns-clause-err
returns-clause-err c =
    IfErr-weaker c.text_of.result _ _
    (λ f h. text_refused c.args.source.now c.args.k c.args.externs.now c.in_ok-program.program f c.in_ok-program.ensures.ok h)
    c.text_of.ensures.err
