use Rattle.std.proofs.Common.{◌≡◌, length, refl, ap, ◌∙◌, arith}
use Rattle.std.proofs.lemmas.List.{take_all}
use Rattle.asl_lock_forest.specs.declared.rows.Rows.{Rows}
use Rattle.asl_lock_forest.proofs.RowsLaws.{copied_rows, copied_kept}
use Rattle.asl_lock_forest.proofs.rows.Rows.try_copy.Goals as goal

module _ (c : goal.In_ok-try_copy) where
  abbrev copy : Rows
  copy = record { root = c.args.self.now.root; classes = c.loop-row.classes; leaves = c.in_ok-try_copy.field-0 }

  classes : c.loop-row.classes.items ≡ c.args.self.now.classes.items
  classes =
      let read : c.deref-row-items.result.now ≡ c.args.self.now.classes.items = c.deref-row-items.ensures.value in
      let long = ap length read in
      c.loop-row.invariant ∙ take_all c.loop-row.row-index c.args.self.now.classes.items (omega (arith, c.loop-row-test.false, long))

pub returns-clause-kept : goal.returns-clause-kept
returns-clause-kept c = copied_kept c.args.self.now (copy c) refl (classes c) c.in_ok-try_copy.ensures.same c.requires c.in_ok-try_copy.ensures.kept

pub returns-clause-same : goal.returns-clause-same
returns-clause-same c = copied_rows c.args.self.now (copy c) refl (classes c) c.in_ok-try_copy.ensures.same
