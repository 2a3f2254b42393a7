-- What a map of numbers says of a name, and one name more.
use Rattle.std.proofs.Common.{◌≡◌, ℕ, suc, ◌<◌, Bool, true, false, Some, None, if◌then◌else◌, List, [], ◌∷◌, length, drop, get_or, bytes_eq, refl, sym, ap, ◌∙◌, arith, drop-cons}
use Rattle.std.specs.Borrow.{Bor}
use Rattle.asl_syntax.specs.Rules.{Counts, no_count, with_count}
use Rattle.asl_lower.specs.Names.{number_of}
use Rattle.asl_lower.specs.NamesView.{names_of}
use Rattle.asl_lower.specs.Numbered.{numbers_from, IsPlace, IsNumbering}

found_step : (b : Bool) (n k : ℕ) (x : List ℕ) (xs : List (List ℕ)) (q : List ℕ) → bytes_eq x q ≡ b → (numbers_from (suc n) xs q ≡ Some k → IsPlace (suc n) k xs q) → (if b then Some n else numbers_from (suc n) xs q) ≡ Some k → IsPlace n k (x ∷ xs) q
found_step true n k x xs q same more e =
    let i : n ≡ k = cc in
    let z : number_of (x ∷ xs) q ≡ 0 = ap (λ b. if b then 0 else suc (number_of xs q)) same in
    record { number = omega (arith, i, z); bound = omega (arith, z) }
found_step false n k x xs q same more e =
    let r = more e in
    let z : number_of (x ∷ xs) q ≡ suc (number_of xs q) = ap (λ b. if b then 0 else suc (number_of xs q)) same in
    record { number = omega (arith, r.number, z); bound = omega (arith, r.bound, z) }

pub found : (n k : ℕ) (xs : List (List ℕ)) (q : List ℕ) → numbers_from n xs q ≡ Some k → IsPlace n k xs q
found n k [] q e = absurd cc
found n k (x ∷ xs) q e = found_step (bytes_eq x q) n k x xs q refl (λ h. found (suc n) k xs q h) e

-- a whole numbering, and that of no name
pub all_numbered : (m : Counts) (names : List (List ℕ)) → m ≡ numbers_from 0 names → IsNumbering m names
all_numbered m names e x k h = found 0 k names x (sym (ap (λ (f : Counts). f x) e) ∙ h)

pub none_numbered : (m : Counts) (names : List (List ℕ)) → m ≡ no_count → IsNumbering m names
none_numbered m names e x k h =
    let z : None ≡ Some k = sym (ap (λ (f : Counts). f x) e) ∙ h in
    absurd cc

-- the names from a place on, where those after it have their numbers
pub one_before : (names : List (Bor (List ℕ))) (i j : ℕ) (x : Bor (List ℕ)) (old new : Counts) → i < length names → j ≡ suc i → x ≡ get_or names i x → old ≡ numbers_from j (names_of (drop j names)) → new ≡ with_count x.now i old → new ≡ numbers_from i (names_of (drop i names))
one_before names i j x old new low next same rest e =
    let d : drop i names ≡ x ∷ drop (suc i) names = drop-cons names i x low ∙ ap (λ y. y ∷ drop (suc i) names) (sym same) in
    e ∙ ap (with_count x.now i) (rest ∙ ap (λ m. numbers_from m (names_of (drop m names))) next) ∙ sym (ap (λ l. numbers_from i (names_of l)) d)
