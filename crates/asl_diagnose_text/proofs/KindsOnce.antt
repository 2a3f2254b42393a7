-- No kind of token is listed twice.
use Rattle.std.proofs.Common.{◌≡◌, ◌≢◌, ℕ, zero, suc, ◌+◌, ◌<◌, ◌≤◌, List, [], ◌∷◌, length, take, get_or, refl, sym, ap, subst, ◌∙◌, arith}
use Rattle.std.specs.List.{AllPairs, filter}
use Rattle.std.proofs.lemmas.List.{take_all}
use Rattle.std.proofs.lemmas.List.Kept.{AllPairs-filter}
use Rattle.asl_grammar.specs.declared.token.Mark.TheVariants as mark
use Rattle.asl_grammar.specs.Seen.{Place}
use Rattle.asl_diagnose_text.specs.declared.kind.TokenKind.{TokenKind}
use Rattle.asl_diagnose_text.specs.declared.kind.TokenKind.TheVariants as kind
use Rattle.asl_diagnose_text.specs.declared.kind.TheConstants.{ALL_KINDS}
use Rattle.asl_diagnose_text.proofs.Accepted.{goes_on}

-- the place of a kind among all
abbrev number : TokenKind → ℕ
number (kind.Fixed mark.Global) = 0
number (kind.Fixed mark.Fn) = 1
number (kind.Fixed mark.Out) = 2
number (kind.Fixed mark.If) = 3
number (kind.Fixed mark.Else) = 4
number (kind.Fixed mark.While) = 5
number (kind.Fixed mark.Atomic) = 6
number (kind.Fixed mark.Return) = 7
number (kind.Fixed mark.Null) = 8
number (kind.Fixed mark.New) = 9
number (kind.Fixed mark.Semicolon) = 10
number (kind.Fixed mark.Comma) = 11
number (kind.Fixed mark.Becomes) = 12
number (kind.Fixed mark.OpenParen) = 13
number (kind.Fixed mark.CloseParen) = 14
number (kind.Fixed mark.OpenBrace) = 15
number (kind.Fixed mark.CloseBrace) = 16
number (kind.Fixed mark.OpenBracket) = 17
number (kind.Fixed mark.CloseBracket) = 18
number (kind.Fixed mark.Plus) = 19
number (kind.Fixed mark.Minus) = 20
number (kind.Fixed mark.Less) = 21
number (kind.Fixed mark.Same) = 22
number (kind.Fixed mark.Ampersand) = 23
number (kind.Fixed mark.Star) = 24
number kind.Name = 25
number kind.Number = 26

-- these kinds stand at their places, from this one on
abbrev StandFrom : ℕ → List TokenKind → Type 0
StandFrom first [] = Unit {0}
StandFrom first (k ∷ ks) = (number k ≡ first) × StandFrom (suc first) ks

all_stand : StandFrom 0 ALL_KINDS
all_stand = (refl, (refl, (refl, (refl, (refl, (refl, (refl, (refl, (refl, (refl, (refl, (refl, (refl, (refl, (refl, (refl, (refl, (refl, (refl, (refl, (refl, (refl, (refl, (refl, (refl, (refl, (refl, tt)))))))))))))))))))))))))))

number_at : (ks : List TokenKind) (first n : ℕ) (d : TokenKind) → StandFrom first ks → n < length ks → number (get_or ks n d) ≡ first + n
number_at [] first n d h lt = absurd (omega arith)
number_at (k ∷ ks) first zero d h lt = h.0 ∙ omega arith
number_at (k ∷ ks) first (suc n) d h lt = number_at ks (suc first) n d h.1 (omega arith) ∙ omega arith

all_differ : AllPairs (λ a b. a ≢ b) ALL_KINDS
all_differ i j d lt below e =
    let at_i = number_at ALL_KINDS 0 i d all_stand (omega arith) in
    let at_j = number_at ALL_KINDS 0 j d all_stand below in
    let same = ap number e in
    omega (arith, at_i, at_j, same, lt)

-- so do those with which the automaton continues
pub listed_once : (p : Place) (kinds : List TokenKind) (i : ℕ) → length ALL_KINDS ≤ i → kinds ≡ filter (goes_on p) (take i ALL_KINDS) → AllPairs (λ a b. a ≢ b) kinds
listed_once p kinds i full e =
    subst (AllPairs (λ a b. a ≢ b)) (sym (e ∙ ap (λ (ks : List TokenKind). filter (goes_on p) ks) (take_all i ALL_KINDS full)))
    (AllPairs-filter (λ a b. a ≢ b) (goes_on p) ALL_KINDS all_differ)
