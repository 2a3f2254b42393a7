-- what is left gives the answer, with the names that were read before
use Rattle.std.proofs.Common.{◌≡◌, ◌+◌, ◌≤◌, drop}
use Rattle.asl_grammar.specs.Reader.{bytes_left}
use Rattle.asl_syntax.specs.Rules.{no_name, first_twice}
use Rattle.asl_syntax.specs.WordView.{words_left}
use Rattle.asl_syntax.proofs.Scanned.{twice_left}
use Rattle.asl_syntax.proofs.scan.first_twice.Given as goal

abbrev pub invariant-reading : goal.invariant-reading
invariant-reading l = record {
  left : drop l.count (words_left l.all) ≡ words_left l.here;
  own_left : drop l.own.count (words_left l.own.words) ≡ words_left l.here;
  same : twice_left (words_left l.all) (words_left l.own.words) l.count l.own.count (words_left l.here) ≡ first_twice no_name no_name no_name (words_left l.all);
  few : l.count + bytes_left l.here.tokens ≤ bytes_left l.all.tokens;
  own_few : l.own.count ≤ l.count;
}

abbrev pub decreases-reading : goal.decreases-reading
decreases-reading l = bytes_left l.here.tokens
