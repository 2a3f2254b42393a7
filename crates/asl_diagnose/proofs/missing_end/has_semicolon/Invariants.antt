use Rattle.std.proofs.Common.{◌≡◌, ◌<◌, ℕ, get_or}
use Rattle.asl_grammar.specs.declared.token.Mark.TheVariants.{Semicolon}
use Rattle.asl_diagnose_text.specs.declared.kind.TokenKind.TheVariants.{Fixed}
use Rattle.asl_diagnose.proofs.missing_end.has_semicolon.Given as goal

abbrev pub invariant-loop-kind : goal.invariant-loop-kind
invariant-loop-kind l = (k : ℕ) → k < l.kind-index → ¬ (get_or l.kinds k (Fixed Semicolon) ≡ Fixed Semicolon)
