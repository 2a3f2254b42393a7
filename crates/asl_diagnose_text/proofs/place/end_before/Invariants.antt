use Rattle.std.proofs.Common.{◌≡◌, ◌<◌, ◌≤◌, ℕ, true, length, min}
use Rattle.std.specs.Prelude.{slice_index}
use Rattle.asl_grammar.specs.Lex.{is_blank}
use Rattle.asl_diagnose_text.proofs.place.end_before.Given as goal

abbrev pub invariant-loop-end : goal.invariant-loop-end
invariant-loop-end l = record {
  within : l.end ≤ min l.at (length l.text);
  blanks : (i : ℕ) → l.end ≤ i → i < min l.at (length l.text) → is_blank (slice_index l.text i) ≡ true;
}

abbrev pub decreases-loop-end : goal.decreases-loop-end
decreases-loop-end l = l.end
