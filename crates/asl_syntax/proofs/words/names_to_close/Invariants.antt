-- the names so far and those of what is left are those of all, and are fewer than the bytes
use Rattle.std.proofs.Common.{◌≡◌, ◌+◌, ◌≤◌}
use Rattle.asl_grammar.specs.Grammar.{bare}
use Rattle.asl_grammar.specs.Reader.{spots_left, bytes_left}
use Rattle.asl_syntax.specs.Heard.{names_to_close}
use Rattle.asl_syntax.proofs.words.names_to_close.Given as goal

abbrev pub invariant-reading : goal.invariant-reading
invariant-reading l = record {
  same : l.count + names_to_close (bare (spots_left l.tokens)) ≡ names_to_close (bare (spots_left l.fn.tokens));
  few : l.count + bytes_left l.tokens ≤ bytes_left l.fn.tokens;
}

abbrev pub decreases-reading : goal.decreases-reading
decreases-reading l = bytes_left l.tokens
