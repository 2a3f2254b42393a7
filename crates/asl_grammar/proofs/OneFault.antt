-- A text has one place at most where it stops being a program.
use Rattle.std.proofs.Common.{◌≡◌, ℕ, List, [], ◌∷◌, ◌++◌, IsTrue, refl, sym, ap, ◌∙◌, subst, append_assoc}
use Rattle.std.proofs.lemmas.Bool.{and_parts, and_from}
use Rattle.std.proofs.lemmas.List.{append-nil}
use Rattle.asl_grammar.specs.Token.{Token, Spot}
use Rattle.asl_grammar.specs.Lex.{is_token, are_tokens, tokens_of}
use Rattle.asl_grammar.specs.Grammar.{IsProgram, IsViable, StopsAt, IsGrammarFault, bare}
use Rattle.asl_grammar.proofs.Real.{tokens_real}
use Rattle.asl_grammar.proofs.Viable.{are_tokens-append}

-- what begins with tokens that begin a program
shorter : (before : List Token) (t : Token) (ts : List Token) → IsTrue (are_tokens ts) → IsViable (before ++ t ∷ ts) → IsViable (before ++ t ∷ [])
shorter before t ts h v = record {
  more = ts ++ v.more;
  real = are_tokens-append ts v.more h v.real;
  whole = (let P : List Token → Type 0 = λ us. IsProgram us in subst P (append_assoc before (t ∷ ts) v.more ∙ sym (append_assoc before (t ∷ []) (ts ++ v.more))) v.whole);
}

-- a place cannot be before another
not_before : (done : List Token) (s : Spot) (xs ys rest : List Spot) (end a : ℕ) → rest ≡ s ∷ (xs ++ ys) → IsTrue (are_tokens (bare xs)) → IsViable (done ++ s.token ∷ bare xs) → StopsAt done rest end a → ⊥
not_before done s xs ys rest end a e h v stops =
    let P : List Spot → Type 0 = λ r. StopsAt done r end a in
    (subst P e stops).1 (shorter done s.token (bare xs) h v)

same_stop : (before : List Token) (xs ys : List Spot) (end a b : ℕ) → xs ≡ ys → StopsAt before xs end a → StopsAt before ys end b → a ≡ b
same_stop before [] [] end a b e p q = p.0 ∙ sym q.0
same_stop before [] (y ∷ ys) end a b e p q = cc
same_stop before (x ∷ xs) [] end a b e p q = cc
same_stop before (x ∷ xs) (y ∷ ys) end a b e p q =
    let f : x ≡ y = cc in p.0 ∙ ap (λ (s : Spot). s.at) f ∙ sym q.0

real_front : (xs ys : List Spot) → IsTrue (are_tokens (bare (xs ++ ys))) → IsTrue (are_tokens (bare xs))
real_front [] ys h = refl
real_front (x ∷ xs) ys h =
    let both = and_parts (is_token x.token) (are_tokens (bare (xs ++ ys))) h in
    and_from _ _ both.0 (real_front xs ys both.1)

one_split : (done : List Token) (xs ys us vs : List Spot) (end a b : ℕ) → xs ++ ys ≡ us ++ vs → IsTrue (are_tokens (bare (xs ++ ys))) → IsTrue (are_tokens (bare (us ++ vs))) → IsViable (done ++ bare xs) → StopsAt (done ++ bare xs) ys end a → IsViable (done ++ bare us) → StopsAt (done ++ bare us) vs end b → a ≡ b
one_split done [] ys [] vs end a b e r s v p w q = same_stop (done ++ []) ys vs end a b e p q
one_split done [] ys (u ∷ us) vs end a b e r s v p w q =
    let P : List Token → Type 0 = λ ts. StopsAt ts ys end a in
    absurd (not_before done u us vs ys end a e (real_front us vs (and_parts (is_token u.token) (are_tokens (bare (us ++ vs))) s).1) w (subst P (append-nil done) p))
one_split done (x ∷ xs) ys [] vs end a b e r s v p w q =
    let P : List Token → Type 0 = λ ts. StopsAt ts vs end b in
    absurd (not_before done x xs ys vs end b (sym e) (real_front xs ys (and_parts (is_token x.token) (are_tokens (bare (xs ++ ys))) r).1) v (subst P (append-nil done) q))
one_split done (x ∷ xs) ys (u ∷ us) vs end a b e r s v p w q =
    let f : x ≡ u = cc in
    let g : xs ++ ys ≡ us ++ vs = cc in
    let t : List Token = done ++ x.token ∷ [] in
    let P : List Token → Type 0 = λ ts. IsViable ts in
    let S : List Token → Type 0 = λ ts. StopsAt ts ys end a in
    let T : List Token → Type 0 = λ ts. StopsAt ts vs end b in
    let here : done ++ x.token ∷ bare xs ≡ t ++ bare xs = sym (append_assoc done (x.token ∷ []) (bare xs)) in
    let there : done ++ u.token ∷ bare us ≡ t ++ bare us = ap (λ (s : Spot). done ++ s.token ∷ bare us) (sym f) ∙ sym (append_assoc done (x.token ∷ []) (bare us)) in
    one_split t xs ys us vs end a b g (and_parts (is_token x.token) (are_tokens (bare (xs ++ ys))) r).1 (and_parts (is_token u.token) (are_tokens (bare (us ++ vs))) s).1 (subst P here v) (subst S here p) (subst P there w) (subst T there q)

one_fault_of : (ss : List Spot) (end a b : ℕ) → IsTrue (are_tokens (bare ss)) → IsGrammarFault ss end a → IsGrammarFault ss end b → a ≡ b
one_fault_of ss end a b h p q =
    let R : List Spot → Type 0 = λ us. IsTrue (are_tokens (bare us)) in
    one_split [] p.before p.rest q.before q.rest end a b (sym p.split ∙ q.split) (subst R p.split h) (subst R q.split h) p.begins p.stops q.begins q.stops

-- the tokens of a text
pub one_fault : (text : List ℕ) (end a b : ℕ) → IsGrammarFault (tokens_of text) end a → IsGrammarFault (tokens_of text) end b → a ≡ b
one_fault text end a b p q = one_fault_of (tokens_of text) end a b (tokens_real text) p q
