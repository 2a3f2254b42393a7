use Rattle.asl_syntax.specs.AstView.{tree_of}
use Rattle.asl_tool.proofs.Checking.{pair_refused}
use Rattle.asl_tool.proofs.commands.check.sections_of.Goals as goal

pub returns-clause-err : goal.returns-clause-err
returns-clause-err c =
    pair_refused c.args.source.now c.args.program.now (tree_of c.in-Ok.ast) c.in-Ok-read_program.program c.args.k_limit.now c.args.all c.refused.result c.in-Ok.ensures.ok c.in-Ok-read_program.ensures.ok c.refused.ensures
