use Rattle.std.proofs.Common.{◌≡◌, ◌+◌, ◌≤◌, length}
use Rattle.asl_assembler.specs.Words.{lines_of}
use Rattle.asl_diagnose_text.specs.TextLines.{rows_left, lines_left, row_of}
use Rattle.asl_diagnose_text.proofs.listing.instruction_row.Given as goal

abbrev pub invariant-rows : goal.invariant-rows
invariant-rows l = record {
  same : row_of l.left l.number (lines_left l.rows) ≡ row_of l.pc 1 (lines_of l.fn.text);
  few : l.number + rows_left l.rows ≤ 1 + length l.fn.text;
}

abbrev pub decreases-rows : goal.decreases-rows
decreases-rows l = rows_left l.rows
