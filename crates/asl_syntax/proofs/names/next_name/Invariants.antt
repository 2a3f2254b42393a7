-- the name tokens that are left are those of the beginning
use Rattle.std.proofs.Common.{◌≡◌}
use Rattle.asl_grammar.specs.Reader.{spots_left, bytes_left}
use Rattle.asl_syntax.specs.Rules.{name_places}
use Rattle.asl_syntax.proofs.names.next_name.Given as goal

abbrev pub invariant-reading : goal.invariant-reading
invariant-reading l = name_places (spots_left l.fn.tokens) ≡ name_places (spots_left l.tokens)

abbrev pub decreases-reading : goal.decreases-reading
decreases-reading l = bytes_left l.tokens
