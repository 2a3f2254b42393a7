use Rattle.asl_syntax.specs.AstView.{tree_of}
use Rattle.asl_syntax.proofs.Few.{few_functions, few_globals}
use Rattle.asl_syntax.proofs.ast.Ast.items.Goals as goal

pub returns-clause-few_globals : goal.returns-clause-few_globals
returns-clause-few_globals c = few_globals (tree_of c.args.self.now) c.args.self.now.parsed

pub returns-clause-few_functions : goal.returns-clause-few_functions
returns-clause-few_functions c =
    few_functions (tree_of c.args.self.now) c.args.self.now.parsed
