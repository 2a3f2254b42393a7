-- The place of the automaton after the first tokens of a text.
use Rattle.std.proofs.Common.{◌≡◌, ℕ, zero, suc, ◌+◌, List, [], ◌∷◌, Option, Some, None, drop, refl, sym, ap, ◌∙◌, add-one}
use Rattle.std.proofs.lemmas.List.{drop-drop}
use Rattle.asl_grammar.specs.Token.{Spot}
use Rattle.asl_grammar.specs.Seen.{Place, next_place}
use Rattle.asl_grammar.specs.Recent.{walk_with, walk}
use Rattle.asl_grammar.proofs.Stopping.{fault_with, fault_from}

walk_one : (o : Option Place) → walk_with o (λ q. Some q) ≡ o
walk_one None = refl
walk_one (Some p) = refl

more_with : (n : ℕ) (q : Place) (s : Spot) (ss : List Spot) (o : Option Place) → ((p : Place) → walk p n ss ≡ Some q → walk p (suc n) ss ≡ next_place q s.token) → walk_with o (λ p. walk p n ss) ≡ Some q → walk_with o (λ p. walk p (suc n) ss) ≡ next_place q s.token
more_with n q s ss None go h = cc
more_with n q s ss (Some p) go h = go p h

-- one token more
walk_suc : (n : ℕ) (p q : Place) (s : Spot) (ss left : List Spot) → walk p n ss ≡ Some q → drop n ss ≡ s ∷ left → walk p (suc n) ss ≡ next_place q s.token
walk_suc zero p q s ss left h e =
    let same : p ≡ q = cc in
    ap (λ (us : List Spot). walk p (suc zero) us) e
    ∙ walk_one (next_place p s.token)
    ∙ ap (λ (w : Place). next_place w s.token) same
walk_suc (suc n) p q s [] left h e = cc
walk_suc (suc n) p q s (x ∷ xs) left h e =
    more_with n q s xs (next_place p x.token) (λ w g. walk_suc n w q s xs left g e) h

pub walk_more : (n : ℕ) (p q r : Place) (s : Spot) (ss left : List Spot) → walk p n ss ≡ Some q → drop n ss ≡ s ∷ left → next_place q s.token ≡ Some r → walk p (n + 1) ss ≡ Some r
walk_more n p q r s ss left h e g =
    ap (λ (m : ℕ). walk p m ss) (add-one n) ∙ walk_suc n p q s ss left h e ∙ g

pub drop_next : (n : ℕ) (s : Spot) (ss left : List Spot) → drop n ss ≡ s ∷ left → drop (n + 1) ss ≡ left
drop_next n s ss left e = sym (drop-drop 1 n ss) ∙ ap (λ (us : List Spot). drop 1 us) e

fault_along : (n : ℕ) (q : Place) (ss : List Spot) (at end : ℕ) (o : Option Place) → ((p : Place) → walk p n ss ≡ Some q → fault_from q (drop n ss) end ≡ fault_from p ss end) → walk_with o (λ p. walk p n ss) ≡ Some q → fault_from q (drop n ss) end ≡ fault_with o at (λ p. fault_from p ss end)
fault_along n q ss at end None go h = cc
fault_along n q ss at end (Some p) go h = go p h

-- what is left gives the same answer
pub walk_fault : (n : ℕ) (p q : Place) (ss : List Spot) (end : ℕ) → walk p n ss ≡ Some q → fault_from q (drop n ss) end ≡ fault_from p ss end
walk_fault zero p q ss end h = let same : q ≡ p = cc in ap (λ (w : Place). fault_from w ss end) same
walk_fault (suc n) p q [] end h = cc
walk_fault (suc n) p q (x ∷ xs) end h =
    fault_along n q xs x.at end (next_place p x.token) (λ w g. walk_fault n w q xs end g) h

-- the first of some tokens that are read, and what is read then
pub record Reads (p q : Place) (n : ℕ) (s : Spot) (ss : List Spot) : Type 0 where
  pub next : Place
  pub step : next_place p s.token ≡ Some next
  pub rest : walk next n ss ≡ Some q

reads_with : (p q : Place) (n : ℕ) (s : Spot) (ss : List Spot) (o : Option Place) → next_place p s.token ≡ o → walk_with o (λ w. walk w n ss) ≡ Some q → Reads p q n s ss
reads_with p q n s ss None e h = cc
reads_with p q n s ss (Some w) e h = record { next = w; step = e; rest = h }

pub reads : (p q : Place) (n : ℕ) (s : Spot) (ss : List Spot) → walk p (suc n) (s ∷ ss) ≡ Some q → Reads p q n s ss
reads p q n s ss h = reads_with p q n s ss (next_place p s.token) refl h
