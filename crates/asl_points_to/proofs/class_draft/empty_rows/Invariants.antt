-- the rows so far
use Rattle.std.proofs.Common.{◌≡◌, None, length}
use Rattle.asl_points_to.specs.declared.value_flow.Place.{Place}
use Rattle.asl_points_to.specs.Draft.{entry}
use Rattle.asl_points_to.proofs.class_draft.empty_rows.Given as goal

abbrev pub invariant-loop : goal.invariant-loop
invariant-loop l = record {
  len : length l.rows.items ≡ l.counter;
  empty : (p : Place) → entry l.rows.items p ≡ None;
}
