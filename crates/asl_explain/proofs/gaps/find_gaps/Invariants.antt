use Rattle.std.proofs.Common.{◌≡◌, ◌≤◌, true}
use Rattle.std.specs.List.{list_all, slice_range}
use Rattle.asl_class_text.specs.Places.{is_blank}
use Rattle.asl_explain.specs.Gaps.{are_gaps}
use Rattle.asl_explain.proofs.gaps.find_gaps.Given as goal

abbrev pub invariant-loop-to : goal.invariant-loop-to
invariant-loop-to l = record {
  order : l.from ≤ l.to;
  blank : list_all is_blank (slice_range l.source l.from l.to) ≡ true;
  gaps : are_gaps l.source l.gaps.items ≡ true;
}
