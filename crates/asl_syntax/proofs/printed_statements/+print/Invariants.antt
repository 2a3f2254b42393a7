-- what is written and what is left are the statements
use Rattle.std.proofs.Common.{◌≡◌, ◌++◌, drop}
use Rattle.asl_syntax.specs.View.{block_of}
use Rattle.asl_syntax.specs.Pieces.{block_bytes}
use Rattle.asl_syntax.proofs.printed_statements.+print.Given as goal

abbrev pub invariant-push_block-loop-statement : goal.invariant-push_block-loop-statement
invariant-push_block-loop-statement l =
    l.out.items ++ block_bytes (block_of (drop l.statement-index l.block)) ≡ l.fn.out.items ++ block_bytes (block_of l.block)
