-- Counting a word among tokens.
use Rattle.std.proofs.Common.{◌≡◌, ℕ, suc, ◌+◌, ◌-◌, ◌≤◌, List, [], ◌∷◌, ◌++◌, Bool, true, false, refl, sym, ap, ◌∙◌, arith, if◌then◌else◌}
use Rattle.std.proofs.lemmas.List.{append-nil}
use Rattle.asl_grammar.specs.Token.{Spot}
use Rattle.asl_diagnose_text.specs.declared.word_place.Word.{Word}
use Rattle.asl_diagnose_text.specs.Places.{is_word, words_in, IsWordAt}
use Rattle.asl_diagnose_text.proofs.Tokens.{split_on}

-- some tokens were passed, and so many of the word are still to pass
pub record IsCounting (w : Word) (all left : List Spot) (number more : ℕ) : Type 0 where
  pub before : List Spot
  pub split : all ≡ before ++ left
  pub counted : words_in w before + more ≡ number

pub none_counted : (w : Word) (all left : List Spot) (number : ℕ) → left ≡ all → IsCounting w all left number number
none_counted w all left number e = record { before = []; split = sym e; counted = omega arith }

more_if : (b : Bool) (m n k : ℕ) → m ≡ n + k → (if b then suc m else m) ≡ (if b then suc n else n) + k
more_if true m n k e = omega arith
more_if false m n k e = e

words_more : (w : Word) (ss : List Spot) (s : Spot) → words_in w (ss ++ s ∷ []) ≡ words_in w ss + words_in w (s ∷ [])
words_more w [] s = omega arith
words_more w (t ∷ ss) s =
    more_if (is_word w t.token) (words_in w (ss ++ s ∷ [])) (words_in w ss) (words_in w (s ∷ [])) (words_more w ss s)

one_word : (w : Word) (s : Spot) → is_word w s.token ≡ true → words_in w (s ∷ []) ≡ 1
one_word w s e = ap (λ (b : Bool). if b then 1 else 0) e

no_word : (w : Word) (s : Spot) → is_word w s.token ≡ false → words_in w (s ∷ []) ≡ 0
no_word w s e = ap (λ (b : Bool). if b then 1 else 0) e

pub counted_one : (w : Word) (all left rest : List Spot) (s : Spot) (number more : ℕ) → IsCounting w all left number more → left ≡ s ∷ rest → is_word w s.token ≡ true → (more ≡ 0 → ⊥) → IsCounting w all rest number (more - 1)
counted_one w all left rest s number more h e f n = record {
  before = h.before ++ s ∷ [];
  split = split_on all h.before left rest s h.split e;
  counted = (let a = words_more w h.before s in let b = one_word w s f in let c = h.counted in omega arith);
}

pub counted_none : (w : Word) (all left rest : List Spot) (s : Spot) (number more : ℕ) → IsCounting w all left number more → left ≡ s ∷ rest → is_word w s.token ≡ false → IsCounting w all rest number more
counted_none w all left rest s number more h e f = record {
  before = h.before ++ s ∷ [];
  split = split_on all h.before left rest s h.split e;
  counted = (let a = words_more w h.before s in let b = no_word w s f in let c = h.counted in omega arith);
}

pub found_word : (w : Word) (all left rest : List Spot) (s : Spot) (number more : ℕ) → IsCounting w all left number more → left ≡ s ∷ rest → is_word w s.token ≡ true → more ≡ 0 → IsWordAt all w number s.at
found_word w all left rest s number more h e f z = record {
  before = h.before;
  here = s;
  behind = rest;
  split = h.split ∙ ap (λ (ss : List Spot). h.before ++ ss) e;
  word = f;
  place = refl;
  counted = (let c = h.counted in omega arith);
}

-- all tokens were passed
pub all_counted : (w : Word) (all left : List Spot) (number more : ℕ) → IsCounting w all left number more → left ≡ [] → words_in w all ≤ number
all_counted w all left number more h e =
    let s : all ≡ h.before = h.split ∙ ap (λ (ss : List Spot). h.before ++ ss) e ∙ append-nil h.before in
    omega (arith, ap (words_in w) s, h.counted)
