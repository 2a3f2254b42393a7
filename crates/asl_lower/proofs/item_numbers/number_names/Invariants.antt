-- the names after a place have their numbers
use Rattle.std.proofs.Common.{◌≡◌, ◌≤◌, drop, length}
use Rattle.asl_syntax.specs.NumberedNamesView.{counts_in}
use Rattle.asl_lower.specs.NamesView.{names_of}
use Rattle.asl_lower.specs.Numbered.{numbers_from}
use Rattle.asl_lower.proofs.item_numbers.number_names.Given as goal

abbrev pub invariant-loop-i : goal.invariant-loop-i
invariant-loop-i l = record {
  numbered : counts_in l.numbering ≡ numbers_from l.i (names_of (drop l.i l.names));
  within : l.i ≤ length l.names;
}

abbrev pub decreases-loop-i : goal.decreases-loop-i
decreases-loop-i l = l.i
