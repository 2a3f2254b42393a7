-- the pieces so far, and then those of the statements left, are those of all; likewise the tokens
use Rattle.std.proofs.Common.{◌≡◌, ◌++◌, drop}
use Rattle.asl_grammar.specs.Reader.{spots_left}
use Rattle.asl_syntax.specs.View.{block_of}
use Rattle.asl_map.specs.Walked.{block_pieces, block_rest}
use Rattle.asl_map.proofs.code_walk.+walk.Given as goal

abbrev pub invariant-walk_block-loop-statement : goal.invariant-walk_block-loop-statement
invariant-walk_block-loop-statement l = record {
  pieces : l.walker.pieces.items ++ block_pieces (block_of (drop l.statement-index l.block)) (spots_left l.walker.tokens) ≡ l.fn.walker.pieces.items ++ block_pieces (block_of l.block) (spots_left l.fn.walker.tokens);
  tokens : block_rest (block_of (drop l.statement-index l.block)) (spots_left l.walker.tokens) ≡ block_rest (block_of l.block) (spots_left l.fn.walker.tokens);
}
