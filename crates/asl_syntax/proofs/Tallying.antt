-- Counting token by token counts what stands before.
use Rattle.std.proofs.Common.{◌≡◌, ℕ, List, [], ◌∷◌, Option, Some, None, if◌then◌else◌, refl, ap, ◌∙◌}
use Rattle.asl_grammar.specs.declared.token.Mark.TheVariants as mark
use Rattle.asl_grammar.specs.Token.{Token, Fixed, Name, Spot}
use Rattle.asl_syntax.specs.Limit.{Tally, tally_of, is_over, limit_from}
use Rattle.asl_syntax.specs.Tallied.{noted}

noted-tally_of : (t : Token) (before : List Token) → noted (tally_of before) t ≡ tally_of (t ∷ before)
noted-tally_of (Fixed mark.Fn) before = refl
noted-tally_of (Fixed mark.Global) before = refl
noted-tally_of (Fixed mark.Atomic) before = refl
noted-tally_of (Fixed mark.OpenBrace) before = refl
noted-tally_of (Fixed mark.CloseBrace) before = refl
noted-tally_of (Fixed mark.OpenParen) before = refl
noted-tally_of (Fixed mark.Comma) before = refl
noted-tally_of (Name x) before = refl
noted-tally_of _ before = refl

-- the first token that goes past a limit, from a tally on
abbrev pub over_from : Tally → List Spot → Option ℕ
over_from y [] = None
over_from y (s ∷ ss) = if is_over y s.token then Some s.at else over_from (noted y s.token) ss

pub over_is_limit : (ss : List Spot) (before : List Token) → over_from (tally_of before) ss ≡ limit_from before ss
over_is_limit [] before = refl
over_is_limit (s ∷ ss) before =
    ap (λ o. if is_over (tally_of before) s.token then Some s.at else o) (ap (λ (y : Tally). over_from y ss) (noted-tally_of s.token before) ∙ over_is_limit ss (s.token ∷ before))
