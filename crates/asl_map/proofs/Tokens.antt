-- Tokens of a text, and their places.
use Rattle.std.proofs.Common.{◌≡◌, ℕ, zero, suc, ◌+◌, ◌-◌, ◌<◌, Bool, true, false, cond, List, [], ◌∷◌, length, Option, None, Some, ap, arith}
use Rattle.asl_grammar.specs.Token.{Token, Spot}
use Rattle.asl_grammar.specs.Lex.{is_blank, front, spots, spot_then}

-- the first token stands within the text
pub first_within : (bs : List ℕ) (skip at : ℕ) (s : Spot) (ss : List Spot) → spots bs skip at ≡ s ∷ ss → s.at < at + length bs
first_within [] skip at s ss e = absurd cc
first_within (b ∷ bs) (suc skip) at s ss e = omega (arith, first_within bs skip (suc at) s ss e)
first_within (b ∷ bs) zero at s ss e =
    by_cases (λ e. first_within bs 0 (suc at) s ss e) (is_blank b) (front (b ∷ bs)) e
  where
    by_token : (o : Option (Token × ℕ)) → spot_then o at (λ k. spots bs k (suc at)) ≡ s ∷ ss → s.at < at + suc (length bs)
    by_token None e = absurd cc
    by_token (Some (t, n)) e =
        let spot : Spot = record { token = t; at = at } in
        let q : spot ∷ spots bs (n - 1) (suc at) ≡ s ∷ ss = e in
        let first : spot ≡ s = cc in
        let here : at ≡ s.at = ap (λ (x : Spot). x.at) first in
        omega (arith, here)

    by_cases : (spots bs 0 (suc at) ≡ s ∷ ss → s.at < suc at + length bs) → (c : Bool) (o : Option (Token × ℕ)) → cond c (spots bs 0 (suc at)) (spot_then o at (λ k. spots bs k (suc at))) ≡ s ∷ ss → s.at < at + suc (length bs)
    by_cases rest true o e = omega (arith, rest e)
    by_cases rest false o e = by_token o e
