use Rattle.std.proofs.Common.{◌≡◌, ◌⊎◌, ◌<◌, ◌+◌, ℕ, Some, true, false, length, get_or, slice_get, refl, sym, ◌∙◌, subst, inl, inr, arith}
use Rattle.std.proofs.Math.Nat.{eq-or-lt_of_le}
use Rattle.std.proofs.lemmas.Option.{same_Some, slice_get-get_or, slice_get_read}
use Rattle.asl_grammar.specs.declared.token.Mark.TheVariants.{Semicolon}
use Rattle.asl_diagnose_text.specs.declared.kind.TokenKind.{TokenKind}
use Rattle.asl_diagnose_text.specs.declared.kind.TokenKind.TheVariants.{Fixed}
use Rattle.asl_diagnose.proofs.missing_end.has_semicolon.Goals as goal

pub returns : goal.returns
returns c = (
  λ f. (let bad : false ≡ true = f in cc),
  λ h. (let within = h.1 in let past = c.loop-kind-test.false in absurd (c.loop-kind.invariant h.0 (omega (arith, within, past)) h.2)),
)
