-- the rows so far
use Rattle.std.proofs.Common.{◌≡◌, ◌<◌, ℕ, [], Some, length, map, slice_get}
use Rattle.std.specs.Prelude.{slice_index_or}
use Rattle.asl_code.specs.declared.image.Function as entry
use Rattle.asl_points_to.specs.Numbers.{numbered_row}
use Rattle.asl_points_to.proofs.class_numbers.numbered_rows.Given as goal

abbrev pub invariant-loop-number : goal.invariant-loop-number
invariant-loop-number l = record {
  len : length l.classes.items ≡ l.number;
  each : (n : ℕ) (f : entry.Function) → n < l.number → slice_get l.functions n ≡ Some f → slice_get (map (λ r. r.items) l.classes.items) n ≡ Some (numbered_row l.of (slice_index_or l.rows n []) f.regs);
}
