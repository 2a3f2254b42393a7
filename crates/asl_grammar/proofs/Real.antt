-- The tokens of a text are tokens: its names are names.
use Rattle.std.proofs.Common.{◌≡◌, ℕ, zero, suc, ◌-◌, List, [], ◌∷◌, Bool, true, ◌==◌, Option, Some, None, IsTrue, is_none, refl, ap, take}
use Rattle.std.proofs.lemmas.Bool.{cond_both, and_from, or_left, both_ways}
use Rattle.asl_grammar.specs.declared.token.Mark.{Mark}
use Rattle.asl_grammar.specs.declared.token.Mark.TheVariants as mark
use Rattle.asl_grammar.specs.Token.{Token, Fixed, Spot}
use Rattle.asl_grammar.specs.Grammar.{bare}
use Rattle.asl_grammar.specs.Lex.{is_blank, is_digit, is_letter, is_name_byte, leading, word_of, word_or_name, equals_token, symbol_of_byte, symbol_token, letters_token, front, spots, spot_then, tokens_of, all_bytes, has_name_bytes, is_token, are_tokens}

-- the bytes that are counted pass the test
pub taken_pass : (p : ℕ → Bool) (bs : List ℕ) → IsTrue (all_bytes p (take (leading p bs) bs))
taken_pass p [] = refl
taken_pass p (b ∷ bs) =
    cond_both (p b) (suc (leading p bs)) 0 (λ n. IsTrue (all_bytes p (take n (b ∷ bs)))) (λ e. and_from _ _ e (taken_pass p bs)) (λ e. refl)

pub taken_name : (b : ℕ) (bs : List ℕ) → is_letter b ≡ true → IsTrue (has_name_bytes (take (leading is_name_byte (b ∷ bs)) (b ∷ bs)))
taken_name b bs e =
    cond_both (is_name_byte b) (suc (leading is_name_byte bs)) 0 (λ n. IsTrue (has_name_bytes (take n (b ∷ bs)))) (λ f. and_from _ _ e (taken_pass is_name_byte bs)) (λ f. absurd (both_ways (is_name_byte b) f (or_left _ _ e)))

word_or_name_real : (o : Option Mark) (w : List ℕ) → word_of w ≡ o → IsTrue (has_name_bytes w) → IsTrue (is_token (word_or_name o w))
word_or_name_real None w e h = and_from _ _ h (ap is_none e)
word_or_name_real (Some m) w e h = refl

-- the token at the front
abbrev FrontReal : Option (Token × ℕ) → Type 0
FrontReal None = Unit {0}
FrontReal (Some p) = IsTrue (is_token p.0)

equals_real : (bs : List ℕ) → FrontReal (Some (equals_token bs))
equals_real [] = refl
equals_real (b ∷ bs) =
    cond_both {A = Token × ℕ} (b == 61) (Fixed mark.Same, 2) (Fixed mark.Becomes, 1) (λ p. IsTrue (is_token p.0)) (λ e. refl) (λ e. refl)

symbol_real : (m : Option Mark) → FrontReal (symbol_token m)
symbol_real None = tt
symbol_real (Some m) = refl

letters_real : (b : ℕ) (bs : List ℕ) → is_letter b ≡ true → FrontReal (Some (letters_token (b ∷ bs) (leading is_name_byte (b ∷ bs))))
letters_real b bs e =
    word_or_name_real (word_of (take (leading is_name_byte (b ∷ bs)) (b ∷ bs))) (take (leading is_name_byte (b ∷ bs)) (b ∷ bs)) refl (taken_name b bs e)

front_real : (bs : List ℕ) → FrontReal (front bs)
front_real [] = tt
front_real (b ∷ bs) =
    cond_both {A = Option (Token × ℕ)} (is_letter b) _ _ FrontReal
    (λ e. letters_real b bs e)
    (λ e. cond_both {A = Option (Token × ℕ)} (is_digit b) _ _ FrontReal
    (λ d. refl)
    (λ d. cond_both {A = Option (Token × ℕ)} (b == 61) _ _ FrontReal (λ q. equals_real bs) (λ q. symbol_real (symbol_of_byte b))))

then_real : (o : Option (Token × ℕ)) (at : ℕ) (go : ℕ → List Spot) → FrontReal o → ((k : ℕ) → IsTrue (are_tokens (bare (go k)))) → IsTrue (are_tokens (bare (spot_then o at go)))
then_real None at go f h = refl
then_real (Some (t, n)) at go f h = and_from _ _ f (h (n - 1))

spots_real : (bs : List ℕ) (k at : ℕ) → IsTrue (are_tokens (bare (spots bs k at)))
spots_real [] k at = refl
spots_real (b ∷ bs) (suc k) at = spots_real bs k (suc at)
spots_real (b ∷ bs) zero at =
    cond_both {A = List Spot} (is_blank b) (spots bs 0 (suc at)) (spot_then (front (b ∷ bs)) at (λ k. spots bs k (suc at))) (λ ss. IsTrue (are_tokens (bare ss)))
    (λ e. spots_real bs 0 (suc at))
    (λ e. then_real (front (b ∷ bs)) at (λ k. spots bs k (suc at)) (front_real (b ∷ bs)) (λ k. spots_real bs k (suc at)))

-- each token of a text is one that some bytes spell
pub tokens_real : (text : List ℕ) → IsTrue (are_tokens (bare (tokens_of text)))
tokens_real text = spots_real text 0 0
