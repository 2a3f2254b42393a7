-- the most so far and the most in the statements left are the most in all
use Rattle.std.proofs.Common.{◌≡◌, max, drop}
use Rattle.asl_syntax.specs.View.{block_of}
use Rattle.asl_lower.specs.Names.{block_arguments}
use Rattle.asl_lower.proofs.locals.+arguments.Given as goal

abbrev pub invariant-block_arguments-loop-statement : goal.invariant-block_arguments-loop-statement
invariant-block_arguments-loop-statement l =
    max l.most (block_arguments (block_of (drop l.statement-index l.block))) ≡ block_arguments (block_of l.block)
