-- the end of what is left is that of all
use Rattle.std.proofs.Common.{◌≡◌}
use Rattle.asl_grammar.specs.Reader.{spots_left, bytes_left}
use Rattle.asl_map.specs.Taken.{end_place, past_end}
use Rattle.asl_map.proofs.walker.pass_end.Given as goal

abbrev pub invariant-reading : goal.invariant-reading
invariant-reading l = record {
  place : end_place (spots_left l.tokens) ≡ end_place (spots_left l.fn.tokens);
  tokens : past_end (spots_left l.tokens) ≡ past_end (spots_left l.fn.tokens);
}

abbrev pub decreases-reading : goal.decreases-reading
decreases-reading l = bytes_left l.tokens
