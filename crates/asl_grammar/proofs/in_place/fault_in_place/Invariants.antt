-- what is left gives the answer, and what is kept of the blocks is true
use Rattle.std.proofs.Common.{◌+◌, ◌≤◌}
use Rattle.asl_grammar.specs.Lex.{tokens_of}
use Rattle.asl_grammar.specs.Reader.{spots_left, bytes_left}
use Rattle.asl_grammar.proofs.InPlace.{IsReached}
use Rattle.asl_grammar.proofs.in_place.fault_in_place.Given as goal

abbrev pub invariant-reading : goal.invariant-reading
invariant-reading l = record {
  reached : IsReached (tokens_of l.fn.text) l.count l.control l.recent (spots_left l.tokens) 18446744073709551615;
  few : l.recent.depth ≤ l.count;
  room : l.count + bytes_left l.tokens ≤ bytes_left l.initial.tokens;
}

abbrev pub decreases-reading : goal.decreases-reading
decreases-reading l = bytes_left l.tokens
