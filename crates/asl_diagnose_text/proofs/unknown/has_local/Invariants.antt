use Rattle.std.proofs.Common.{◌≡◌}
use Rattle.asl_grammar.specs.Grammar.{bare}
use Rattle.asl_grammar.specs.Reader.{bytes_left, spots_left}
use Rattle.asl_diagnose_text.specs.UsesView.{has_local}
use Rattle.asl_diagnose_text.proofs.unknown.has_local.Given as goal

abbrev pub invariant-reading : goal.invariant-reading
invariant-reading l =
    has_local l.name l.before.next l.before.sign (bare (spots_left l.tokens)) ≡ has_local l.name l.fn.start.next l.fn.start.sign (bare (spots_left l.fn.from))

abbrev pub decreases-reading : goal.decreases-reading
decreases-reading l = bytes_left l.tokens
