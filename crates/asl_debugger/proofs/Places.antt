-- Breakpoints without a place.
use Rattle.std.proofs.Common.{◌≡◌, ℕ, ◌==◌, ◌||◌, Bool, true, false, not, eqb, List, [], ◌∷◌, refl, ap, sym, ◌∙◌}
use Rattle.std.specs.Prelude.{filter, if◌then◌else◌}
use Rattle.std.proofs.lemmas.Bool.{eqb-true, eq-eqb}
use Rattle.asl_debugger.specs.Breaks.{has_break}

abbrev without : ℕ → List ℕ → List ℕ
without pc places = filter (λ place. not (place == pc)) places

same_false : (b : Bool) → false ≡ (if b then false else false)
same_false true = refl
same_false false = refl

-- two tests of one number agree
agree : (x pc place : ℕ) → eqb x pc ≡ true → eqb x place ≡ eqb pc place
agree x pc place e = ap (λ (n : ℕ). eqb n place) (eqb-true x pc e)

-- a number that is the place, and is not cleared, is not the one that is cleared
apart : (x pc place : ℕ) → eqb x pc ≡ false → eqb x place ≡ true → eqb pc place ≡ true → ⊥
apart x pc place e f g =
    let same : x ≡ pc = eqb-true x place f ∙ sym (eqb-true pc place g) in
    let yes : eqb x pc ≡ true = eq-eqb x pc same in
    absurd cc

-- the last three tests, once the first is known
cleared : (same rest_has whole_has : Bool) → rest_has ≡ (if same then false else whole_has) → rest_has ≡ (if same then false else (same || whole_has))
cleared true rest_has whole_has h = h
cleared false rest_has whole_has h = h

kept : (here same rest_has whole_has : Bool) → (here ≡ true → same ≡ true → ⊥) → rest_has ≡ (if same then false else whole_has) → (here || rest_has) ≡ (if same then false else (here || whole_has))
kept true true rest_has whole_has no_both h = absurd (no_both refl refl)
kept true false rest_has whole_has no_both h = refl
kept false same rest_has whole_has no_both h = h

one_place : (pc place x : ℕ) (xs : List ℕ) (b : Bool) → eqb x pc ≡ b → has_break (without pc xs) place ≡ (if pc == place then false else has_break xs place)
    → has_break (if not b then x ∷ without pc xs else without pc xs) place ≡ (if pc == place then false else (eqb x place || has_break xs place))
one_place pc place x xs true e h = rw (agree x pc place e) (cleared (eqb pc place) (has_break (without pc xs) place) (has_break xs place) h)
one_place pc place x xs false e h = kept (eqb x place) (eqb pc place) (has_break (without pc xs) place) (has_break xs place) (apart x pc place e) h

-- the place is gone, and the others are as they were
pub without_place : (pc place : ℕ) (places : List ℕ) → has_break (without pc places) place ≡ (if pc == place then false else has_break places place)
without_place pc place [] = same_false (pc == place)
without_place pc place (x ∷ xs) = one_place pc place x xs (eqb x pc) refl (without_place pc place xs)
