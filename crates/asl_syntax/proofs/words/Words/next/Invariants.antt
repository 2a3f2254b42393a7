-- what is left has the same names, in no more bytes
use Rattle.std.proofs.Common.{◌≡◌, ◌≤◌}
use Rattle.asl_grammar.specs.Reader.{bytes_left}
use Rattle.asl_syntax.specs.WordView.{words_left}
use Rattle.asl_syntax.proofs.words.Words.next.Given as goal

abbrev pub invariant-reading : goal.invariant-reading
invariant-reading l = record {
  same : words_left l.self ≡ words_left l.fn.self;
  shorter : bytes_left l.self.tokens ≤ bytes_left l.fn.self.tokens;
}

abbrev pub decreases-reading : goal.decreases-reading
decreases-reading l = bytes_left l.self.tokens
