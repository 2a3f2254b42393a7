use Rattle.std.proofs.Common.{◌≡◌, ◌≤◌, ◌++◌, string_bytes}
use Rattle.std.specs.List.{slice_range}
use Rattle.asl_class_text.specs.Texts.{words_from, one_line}
use Rattle.asl_explain.proofs.gaps.push_stretch.Given as goal

abbrev pub invariant-loop-number : goal.invariant-loop-number
invariant-loop-number l = record {
  order : l.at ≤ l.to;
  words : string_bytes l.text ++ words_from l.was_blank (slice_range l.source l.at l.to) ≡ string_bytes l.initial.text ++ one_line (slice_range l.source l.from l.to);
}
