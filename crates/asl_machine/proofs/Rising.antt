-- What a search by halves finds in numbers that rise.
use Rattle.std.proofs.Common.{◌≡◌, ℕ, suc, ◌<◌, ◌≤◌, ◌==◌, true, false, List, [], ◌∷◌, Result, Ok, Err, length, get_or, refl, sym, subst, inl, inr, arith, eqb-true}
use Rattle.std.specs.Prelude.{IsTrue, MatchResult}
use Rattle.std.specs.Ordering.{nat_cmp}
use Rattle.std.specs.List.Sorted.{IsNonDecreasing, IsBinarySearchResult}
use Rattle.std.specs.Result.{is_ok}
use Rattle.std.proofs.lemmas.Bool.Decides.{leb_tells}
use Rattle.std.proofs.lemmas.List.Sorted.{searched}
use Rattle.asl_machine.specs.Cover.{is_fresh}
use Rattle.asl_machine.proofs.Freshness.{or_split, fresh_there}

-- what is one of them stands at a place
fresh_place : (xs : List ℕ) (o : ℕ) → IsTrue (is_fresh xs o) → (k : ℕ) × (k < length xs) × (get_or xs k 0 ≡ o)
fresh_place [] o e = let g : false ≡ true = e in cc
fresh_place (x ∷ xs) o e =
    elim (or_split (x == o) (is_fresh xs o) e) [
      | inl same ↦ (0, omega arith, eqb-true x o same)
      | inr later ↦ let p = fresh_place xs o later in (suc p.0, (let lt = p.1 in omega (arith, lt)), p.2)
    ]

-- the search finds a number where it is one of them
pub found_fresh : (xs : List ℕ) (x : ℕ) (r : Result ℕ ℕ) → IsBinarySearchResult (λ y. nat_cmp y x) xs r → IsNonDecreasing xs → is_ok r ≡ is_fresh xs x
found_fresh xs x r found rises = by r (searched xs x r found (λ i j le lt. rises i j 0 le lt))
  where
    by : (r : Result ℕ ℕ) → MatchResult r (λ i. (i < length xs) × (get_or xs i 0 ≡ x)) (λ i. (i ≤ length xs) × ((k : ℕ) → k < i → get_or xs k 0 < x) × ((k : ℕ) → i ≤ k → k < length xs → x < get_or xs k 0)) →
        is_ok r ≡ is_fresh xs x
    by (Ok i) p = sym (subst (λ o. IsTrue (is_fresh xs o)) p.1 (fresh_there xs i 0 p.0))
    by (Err i) p =
        elim (is_fresh xs x) as (λ b. is_fresh xs x ≡ b → false ≡ b) [
          | true ↦ λ is.
              let q = fresh_place xs x is in
              let same = q.2 in
              elim (leb_tells i q.0) [
                | inl le ↦ (let above = p.2 q.0 le.1 q.1 in absurd (omega (arith, same, above)))
                | inr lt ↦ (let below = p.1 q.0 lt.1 in absurd (omega (arith, same, below)))
              ]
          | false ↦ λ is. refl
        ] refl
