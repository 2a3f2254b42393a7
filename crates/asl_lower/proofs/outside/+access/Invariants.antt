-- the instructions passed so far, and the first access of the statements left
use Rattle.std.proofs.Common.{◌≡◌, ◌+◌, drop}
use Rattle.asl_syntax.specs.View.{block_of}
use Rattle.asl_lower.specs.Size.{block_size}
use Rattle.asl_lower.specs.Outside.{block_access}
use Rattle.asl_lower.proofs.outside.+access.Given as goal

abbrev pub invariant-pass_block-loop-statement : goal.invariant-pass_block-loop-statement
invariant-pass_block-loop-statement l = record {
  size : l.pc + block_size (block_of (drop l.statement-index l.block)) ≡ l.fn.pc + block_size (block_of l.block);
  access : block_access (block_of l.block) l.fn.pc ≡ block_access (block_of (drop l.statement-index l.block)) l.pc;
}
