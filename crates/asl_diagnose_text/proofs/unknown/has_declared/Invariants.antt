use Rattle.std.proofs.Common.{◌≡◌}
use Rattle.asl_grammar.specs.Grammar.{bare}
use Rattle.asl_grammar.specs.Lex.{tokens_of}
use Rattle.asl_grammar.specs.Reader.{bytes_left, spots_left}
use Rattle.asl_diagnose_text.specs.declared.declared.Declares.TheVariants.{Nothing}
use Rattle.asl_diagnose_text.specs.declared.name_role.Sign.TheVariants.{Other}
use Rattle.asl_diagnose_text.specs.UsesView.{has_declared}
use Rattle.asl_diagnose_text.proofs.unknown.has_declared.Given as goal

abbrev pub invariant-reading : goal.invariant-reading
invariant-reading l =
    has_declared l.what l.name l.before.next l.before.sign (bare (spots_left l.tokens)) ≡ has_declared l.what l.name Nothing Other (bare (tokens_of l.fn.text))

abbrev pub decreases-reading : goal.decreases-reading
decreases-reading l = bytes_left l.tokens
