use Rattle.asl_syntax.specs.AstView.{tree_of}
use Rattle.asl_syntax.proofs.Answered.{answered}
use Rattle.asl_syntax.proofs.ReadBack.{sound_ever, read_back, too_long}
use Rattle.asl_syntax.proofs.laws.a_printed_ast_is_read_back.Goals as goal

pub returns-clause-kept : goal.returns-clause-kept
returns-clause-kept c = λ h. read_back (tree_of c.args.ast.now) (sound_ever (tree_of c.args.ast.now) c.args.ast.now.parsed) h

pub returns-clause-long : goal.returns-clause-long
returns-clause-long c = λ h. too_long (tree_of c.args.ast.now) (sound_ever (tree_of c.args.ast.now) c.args.ast.now.parsed) h

pub returns-clause-answer : goal.returns-clause-answer
returns-clause-answer c =
    answered (tree_of c.args.ast.now) (sound_ever (tree_of c.args.ast.now) c.args.ast.now.parsed)
