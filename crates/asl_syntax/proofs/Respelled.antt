-- Printed tokens are read back.
use Rattle.std.proofs.Common.{◌≡◌, ℕ, suc, ◌+◌, List, [], ◌∷◌, ◌++◌, Some, None, IsTrue, refl, ap, ◌∙◌, length, drop, append_assoc}
use Rattle.std.proofs.lemmas.Bool.{and_parts}
use Rattle.asl_grammar.specs.Token.{Token, Fixed, Name, Number}
use Rattle.asl_grammar.specs.Grammar.{bare}
use Rattle.asl_grammar.specs.Lex.{front, spots, bad_from, tokens_of, bad_place, is_token, are_tokens}
use Rattle.asl_grammar.proofs.Apart.{Apart, drop_front, front_name, front_number, at_token_front}
use Rattle.asl_grammar.proofs.Longest.{front_mark}
use Rattle.asl_grammar.proofs.Scan.{spots_token, bad_token}
use Rattle.asl_syntax.specs.Printed.{decimal, token_bytes, spaced}
use Rattle.asl_syntax.proofs.Decimals.{IsDecimal, decimal_is}

-- what stands after a printed token
abbrev after : List Token → List ℕ
after ts = spaced ts ++ 10 ∷ []

after_apart : (ts : List Token) → Apart (after ts)
after_apart [] = record { names = refl; digits = refl; equals = refl }
after_apart (t ∷ ts) = record { names = refl; digits = refl; equals = refl }

front_decimal : (n : ℕ) (ds r : List ℕ) → IsDecimal n ds → Apart r → front (ds ++ r) ≡ Some (Number n, length ds)
front_decimal n ds r d a =
    front_number ds r d.some d.digits a.digits ∙ ap (λ (k : ℕ). Some (Number k, length ds)) d.value

-- a token after which a space or a newline stands
front_token : (t : Token) (r : List ℕ) → IsTrue (is_token t) → Apart r → front (token_bytes t ++ r) ≡ Some (t, length (token_bytes t))
front_token (Fixed m) r h a = front_mark m r a
front_token (Name x) r h a = front_name x r h a.names
front_token (Number n) r h a = front_decimal n (decimal n) r (decimal_is n) a

-- a token and all after it, from any place on
read_token : (t : Token) (ts : List Token) (at : ℕ) → IsTrue (is_token t) → ((n : ℕ) → bare (spots (after ts) 0 n) ≡ ts) → bare (spots ((token_bytes t ++ spaced ts) ++ 10 ∷ []) 0 at) ≡ t ∷ ts
read_token t ts at h rest =
    let bs : List ℕ = token_bytes t in
    let f : front (bs ++ after ts) ≡ Some (t, length bs) = front_token t (after ts) h (after_apart ts) in
    ap (λ (cs : List ℕ). bare (spots cs 0 at)) (append_assoc bs (spaced ts) (10 ∷ []))
    ∙ ap bare (spots_token (bs ++ after ts) at t (length bs) (at_token_front (bs ++ after ts) t (length bs) f) f)
    ∙ ap (λ (us : List Token). t ∷ us) (ap (λ (cs : List ℕ). bare (spots cs 0 (at + length bs))) (drop_front bs (after ts)) ∙ rest (at + length bs))

read_after : (ts : List Token) (at : ℕ) → IsTrue (are_tokens ts) → bare (spots (after ts) 0 at) ≡ ts
read_after [] at h = refl
read_after (t ∷ ts) at h =
    let p = and_parts (is_token t) (are_tokens ts) h in
    read_token t ts (suc at) p.0 (λ n. read_after ts n p.1)

-- the bytes of tokens with one space between and a newline at the end are read as the tokens
pub read_spaced : (ts : List Token) → IsTrue (are_tokens ts) → bare (tokens_of (drop 1 (spaced ts) ++ 10 ∷ [])) ≡ ts
read_spaced [] h = refl
read_spaced (t ∷ ts) h =
    let p = and_parts (is_token t) (are_tokens ts) h in
    read_token t ts 0 p.0 (λ n. read_after ts n p.1)

-- and each byte of them is a blank or a token's
good_token : (t : Token) (ts : List Token) (at : ℕ) → IsTrue (is_token t) → ((n : ℕ) → bad_from (after ts) 0 n ≡ None) → bad_from ((token_bytes t ++ spaced ts) ++ 10 ∷ []) 0 at ≡ None
good_token t ts at h rest =
    let bs : List ℕ = token_bytes t in
    let f : front (bs ++ after ts) ≡ Some (t, length bs) = front_token t (after ts) h (after_apart ts) in
    ap (λ (cs : List ℕ). bad_from cs 0 at) (append_assoc bs (spaced ts) (10 ∷ []))
    ∙ bad_token (bs ++ after ts) at t (length bs) (at_token_front (bs ++ after ts) t (length bs) f) f
    ∙ ap (λ (cs : List ℕ). bad_from cs 0 (at + length bs)) (drop_front bs (after ts))
    ∙ rest (at + length bs)

good_after : (ts : List Token) (at : ℕ) → IsTrue (are_tokens ts) → bad_from (after ts) 0 at ≡ None
good_after [] at h = refl
good_after (t ∷ ts) at h =
    let p = and_parts (is_token t) (are_tokens ts) h in
    good_token t ts (suc at) p.0 (λ n. good_after ts n p.1)

pub good_spaced : (ts : List Token) → IsTrue (are_tokens ts) → bad_place (drop 1 (spaced ts) ++ 10 ∷ []) ≡ None
good_spaced [] h = refl
good_spaced (t ∷ ts) h =
    let p = and_parts (is_token t) (are_tokens ts) h in
    good_token t ts 0 p.0 (λ n. good_after ts n p.1)
