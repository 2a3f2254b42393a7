-- the instructions left so far, and those of the statements left
use Rattle.std.proofs.Common.{◌≡◌, ◌+◌, drop}
use Rattle.asl_syntax.specs.View.{block_of}
use Rattle.asl_lower.specs.Size.{block_size}
use Rattle.asl_lower.proofs.code_size.+size.Given as goal

abbrev pub invariant-left_after_block-loop-statement : goal.invariant-left_after_block-loop-statement
invariant-left_after_block-loop-statement l =
    block_size (block_of l.block) + l.left ≡ l.most + block_size (block_of (drop l.statement-index l.block))
