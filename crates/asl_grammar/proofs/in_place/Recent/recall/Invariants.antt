-- the tokens that are left lead to the same place
use Rattle.std.proofs.Common.{◌≡◌, ◌+◌, ◌-◌, ◌≤◌, Some}
use Rattle.asl_grammar.specs.Lex.{tokens_of}
use Rattle.asl_grammar.specs.Reader.{spots_left}
use Rattle.asl_grammar.specs.Seen.{Place}
use Rattle.asl_grammar.specs.Recent.{place_after}
use Rattle.asl_grammar.proofs.InPlace.{IsAgain}
use Rattle.asl_grammar.proofs.in_place.Recent.recall.Given as goal

abbrev pub invariant-again : goal.invariant-again
invariant-again l = record {
  again : (p : Place) → place_after l.count (tokens_of l.fn.text) ≡ Some p → IsAgain l.control l.recent l.depth l.left (spots_left l.tokens) p;
  room : l.recent.depth + l.left ≤ l.count;
  lost : l.recent.lost ≤ l.depth - 1024;
}

abbrev pub decreases-again : goal.decreases-again
decreases-again l = l.left
