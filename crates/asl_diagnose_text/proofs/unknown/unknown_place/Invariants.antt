use Rattle.std.proofs.Common.{◌≡◌}
use Rattle.asl_grammar.specs.Lex.{tokens_of}
use Rattle.asl_grammar.specs.Reader.{bytes_left, spots_left}
use Rattle.asl_diagnose_text.specs.UsesView.{first_use}
use Rattle.asl_diagnose_text.proofs.Tokens.{IsPassed}
use Rattle.asl_diagnose_text.proofs.FirstUse.{first_use_in}
use Rattle.asl_diagnose_text.proofs.unknown.unknown_place.Given as goal

abbrev pub invariant-reading : goal.invariant-reading
invariant-reading l = record {
  passed : IsPassed (tokens_of l.fn.text) (spots_left l.tokens);
  place : first_use l.name l.globals l.functions l.locals l.before.next l.before.sign (spots_left l.tokens) ≡ first_use_in l.name (tokens_of l.fn.text);
}

abbrev pub decreases-reading : goal.decreases-reading
decreases-reading l = bytes_left l.tokens
