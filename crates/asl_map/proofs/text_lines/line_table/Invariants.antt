-- the lines so far, and those of what is left; a line is no greater than its place
use Rattle.std.proofs.Common.{◌≡◌, ◌++◌, ◌≤◌, ◌+◌, drop, ℕ, List}
use Rattle.asl_map.specs.Lines.{lines_from}
use Rattle.asl_map.proofs.text_lines.line_table.Given as goal

pub record Lines (now : List ℕ) (line place : ℕ) (source : List ℕ) : Type 0 where
  pub told : now ++ lines_from line (drop place source) ≡ lines_from 1 source
  pub small : line ≤ place + 1

abbrev pub invariant-loop-byte : goal.invariant-loop-byte
invariant-loop-byte l = Lines l.lines.items l.line l.byte-index l.source
