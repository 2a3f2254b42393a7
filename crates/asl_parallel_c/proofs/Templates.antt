-- A template byte by byte.
use Rattle.std.proofs.Common.{◌≡◌, ◌≢◌, ℕ, suc, ◌-◌, ◌+◌, ◌<◌, ◌≤◌, List, [], ◌∷◌, ◌++◌, drop, length, get_or, ap, sym, ◌∙◌, append_assoc, add-one, drop-cons, arith}
use Rattle.std.proofs.lemmas.List.{append-nil, drop_all}
use Rattle.std.proofs.lemmas.Bool.{ne_eqb}
use Rattle.asl_parallel_c.specs.Template.{filled, first_digits, repeated}

-- a place for a number
pub place_filled : (old digits new : List ℕ) (b : ℕ) (bytes : List ℕ) (ns : List ℕ) → b ≡ 64 → digits ≡ first_digits ns → new ≡ old ++ digits
    → new ++ filled bytes (drop 1 ns) ≡ old ++ filled (b ∷ bytes) ns
unfolding filled
place_filled old digits new b bytes ns is first e = rw (is, e, first) (append_assoc old (first_digits ns) (filled bytes (drop 1 ns)))

-- any other byte
pub byte_filled : (old new : List ℕ) (b : ℕ) (bytes : List ℕ) (ns : List ℕ) → b ≢ 64 → new ≡ old ++ b ∷ []
    → new ++ filled bytes ns ≡ old ++ filled (b ∷ bytes) ns
unfolding filled
byte_filled old new b bytes ns not e = rw (e, ne_eqb b 64 not) (append_assoc old (b ∷ []) (filled bytes ns))

-- the byte at i is done
pub next_left : (all mid new : List ℕ) (t : List ℕ) (i : ℕ) (ns rest : List ℕ) → i < length t → mid ++ filled (drop i t) ns ≡ all
    → ((bytes : List ℕ) → new ++ filled bytes rest ≡ mid ++ filled (get_or t i 0 ∷ bytes) ns) → new ++ filled (drop (i + 1) t) rest ≡ all
next_left all mid new t i ns rest lt h w =
    let at : drop i t ≡ get_or t i 0 ∷ drop (i + 1) t = rw (add-one, drop-cons t i 0) in
    w (drop (i + 1) t) ∙ ap (λ (d : List ℕ). mid ++ filled d ns) (sym at) ∙ h

-- no byte is left
pub none_left : (all new : List ℕ) (t : List ℕ) (i : ℕ) (ns : List ℕ) → length t ≤ i → new ++ filled (drop i t) ns ≡ all → new ≡ all
unfolding filled
none_left all new t i ns le h = sym (append-nil new) ∙ ap (λ (d : List ℕ). new ++ filled d ns) (sym (drop_all i t le)) ∙ h

-- one more of the numbers is done
pub number_left : (all mid new template : List ℕ) (number end : ℕ) → number < end → mid ++ repeated template number (end - number) ≡ all
    → new ≡ mid ++ filled template (number ∷ number ∷ []) → new ++ repeated template (number + 1) (end - (number + 1)) ≡ all
number_left all mid new template number end lt h w =
    let count : end - number ≡ suc (end - (number + 1)) = omega arith in
    let one : List ℕ = filled template (number ∷ number ∷ []) in
    let rest : List ℕ = repeated template (number + 1) (end - (number + 1)) in
    ap (λ (t : List ℕ). t ++ rest) w ∙ append_assoc mid one rest ∙ ap (λ (n : ℕ). mid ++ repeated template number n) (sym count) ∙ h

-- all of the numbers are done
pub no_number_left : (all new template : List ℕ) (number end : ℕ) → end ≤ number → new ++ repeated template number (end - number) ≡ all → new ≡ all
no_number_left all new template number end le h =
    let count : end - number ≡ 0 = omega arith in
    sym (append-nil new) ∙ ap (λ (n : ℕ). new ++ repeated template number n) (sym count) ∙ h

-- all of the numbers are to be done
pub numbers_left : (old template : List ℕ) (first count : ℕ) → old ++ repeated template first (first + count - first) ≡ old ++ repeated template first count
numbers_left old template first count =
    let is : first + count - first ≡ count = omega arith in
    ap (λ (n : ℕ). old ++ repeated template first n) is
