-- the pieces so far
use Rattle.std.proofs.Common.{◌≡◌, ◌++◌, replicate}
use Rattle.asl_grammar.specs.Reader.{spots_left}
use Rattle.asl_map.specs.Taken.{past_end}
use Rattle.asl_map.proofs.code_walk.walk_line.Given as goal

abbrev pub invariant-loop : goal.invariant-loop
invariant-loop l = record {
  pieces : l.walker.pieces.items ≡ l.fn.walker.pieces.items ++ replicate l.counter l.piece;
  tokens : spots_left l.walker.tokens ≡ past_end (spots_left l.fn.walker.tokens);
}
