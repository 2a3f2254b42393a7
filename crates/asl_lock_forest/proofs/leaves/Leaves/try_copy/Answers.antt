use Rattle.std.proofs.Common.{◌≡◌}
use Rattle.asl_lock_forest.proofs.LeafCopies.{copied_slots, copied_entries, copied_kept, copied_same}
use Rattle.asl_lock_forest.proofs.leaves.Leaves.try_copy.Goals as goal

module _ (c : goal.In_ok-clone-2) where
  slots : c.in_ok-clone.field-0.slots ≡ c.args.self.now.rows.slots
  slots = copied_slots _ _ c.in_ok-clone.ensures.cases.slots

  entries : c.in_ok-clone-2.field-0.entries ≡ c.args.self.now.index.entries
  entries = copied_entries _ _ c.in_ok-clone-2.ensures.cases

pub returns-clause-kept : goal.returns-clause-kept
returns-clause-kept c = copied_kept c.args.self.now (record { rows = c.in_ok-clone.field-0; index = c.in_ok-clone-2.field-0 }) (slots c) (entries c) c.requires

pub returns-clause-same : goal.returns-clause-same
returns-clause-same c = copied_same c.args.self.now (record { rows = c.in_ok-clone.field-0; index = c.in_ok-clone-2.field-0 }) (slots c) (entries c)
