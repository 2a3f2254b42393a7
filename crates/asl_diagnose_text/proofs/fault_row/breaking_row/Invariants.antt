use Rattle.std.proofs.Common.{◌≡◌, ◌+◌, ◌≤◌, length}
use Rattle.asl_assembler.specs.Words.{lines_of}
use Rattle.asl_diagnose_text.specs.TextLines.{rows_left, lines_left, breaking_from}
use Rattle.asl_diagnose_text.proofs.fault_row.breaking_row.Given as goal

abbrev pub invariant-rows : goal.invariant-rows
invariant-rows l = record {
  same : breaking_from l.cause l.from l.number (lines_left l.rows) ≡ breaking_from l.cause l.from 1 (lines_of l.fn.text);
  few : l.number + rows_left l.rows ≤ 1 + length l.fn.text;
}

abbrev pub decreases-rows : goal.decreases-rows
decreases-rows l = rows_left l.rows
