-- the parameters so far and those of what is left, which are fewer than the bytes
use Rattle.std.proofs.Common.{◌≡◌, ◌+◌, ◌≤◌}
use Rattle.asl_grammar.specs.Reader.{bytes_left}
use Rattle.asl_syntax.specs.Heard.{parameters_first}
use Rattle.asl_syntax.specs.WordView.{words_left}
use Rattle.asl_syntax.proofs.scan.parameters_first.Given as goal

abbrev pub invariant-reading : goal.invariant-reading
invariant-reading l = record {
  same : l.count + parameters_first (words_left l.own) ≡ parameters_first (words_left l.fn.own);
  few : l.count + bytes_left l.own.tokens ≤ bytes_left l.fn.own.tokens;
}

abbrev pub decreases-reading : goal.decreases-reading
decreases-reading l = bytes_left l.own.tokens
