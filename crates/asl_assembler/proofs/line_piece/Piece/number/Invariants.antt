use Rattle.std.proofs.Common.{◌≡◌, ◌+◌, ◌≤◌, ◌++◌, length}
use Rattle.std.specs.Fmt.{decimal}
use Rattle.asl_assembler.proofs.line_piece.Piece.number.Given as goal

-- the digits that are left go in front of those that are written
abbrev pub invariant-loop-left : goal.invariant-loop-left
invariant-loop-left l = record {
  written : decimal l.left ++ l.self ≡ decimal l.number ++ l.fn.self;
  room : length l.self + length (decimal l.left) ≤ length l.fn.self + 10;
}

abbrev pub decreases-loop-left : goal.decreases-loop-left
decreases-loop-left l = l.left
