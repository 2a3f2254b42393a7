-- What the scan of the code answers: the lowest place at which an instruction does not pass the test of its body.
use Rattle.std.proofs.Common.{◌≡◌, ℕ, ◌+◌, ◌-◌, ◌<◌, ◌≤◌, Bool, true, false, not, List, [], ◌∷◌, Option, Some, None, length, zero, suc, zero-add, get_or, take, drop, position, refl, ap, sym, ◌∙◌, inl, inr, arith, IsTrue, subst, MatchOption, slice_get, find, nat_lt}
use Rattle.std.specs.List.{position_or_len}
use Rattle.std.proofs.lemmas.List.{length-drop, length-take-le, get_or-take}
use Rattle.std.proofs.lemmas.List.Quantifiers.{position-Some}
use Rattle.std.proofs.lemmas.List.Sums.{fails_before_first, sum_by-cons}
use Rattle.std.proofs.lemmas.Option.{slice_get-get_or}
use Rattle.std.proofs.lemmas.Bool.{both_ways, cases_lt, cases_Bool, ltb-false, le-leb, lt-ltb, le-ltb, and_from, and_parts, eqb-true, and_right, cond-true, cond-false}
use Rattle.asl_code.specs.Bodies.{Body, bodies_from, total_len, is_inside}
use Rattle.asl_code.specs.Rules.{body_at, IsLowestFailing}
use Rattle.asl_code.proofs.Scanning.{first_inside, first_place, first_failing}
use Rattle.asl_code.specs.Verified.{is_failure, fails_at, has_ranges}
use Rattle.asl_code.specs.declared.image.Function.{Function}
use Rattle.asl_code.specs.declared.image.Image.{Image}
use Rattle.asl_code.specs.declared.instr.Instr.{Instr}
use Rattle.asl_code.specs.declared.instr.Instr.TheVariants.{Release}

-- the answer is the lowest number that passes, from `first` on, and none where none passes
abbrev pub IsLowest : ℕ → (ℕ → Bool) → Option ℕ → Type 0
IsLowest first test o = MatchOption o ((k : ℕ) → test k ≡ false) (λ pc. (n : ℕ) × (pc ≡ first + n) × (test n ≡ true) × ((k : ℕ) → k < n → test k ≡ false))

-- whether the instruction so far into this code, which begins at `first`, does not pass
abbrev pub fails_in : (Body → Instr → Bool) → ℕ → List Function → List Instr → ℕ → Bool
fails_in passes first fs code k = is_failure passes (find (is_inside (first + k)) (bodies_from first fs)) (slice_get code k)

-- the first body holds the places below its length
pub inside_first : (first : ℕ) (f : Function) (fs : List Function) (k : ℕ) → k < f.len → find (is_inside (first + k)) (bodies_from first (f ∷ fs)) ≡ Some (body_at first f)
inside_first first f fs k lt =
    cond-true _ _ _ (and_from _ _ (le-leb first (first + k) (omega arith)) (lt-ltb (first + k) (first + f.len) (omega arith)))

-- the others hold the places from there on
pub inside_later : (first : ℕ) (f : Function) (fs : List Function) (pc : ℕ) → first + f.len ≤ pc → find (is_inside pc) (bodies_from first (f ∷ fs)) ≡ find (is_inside pc) (bodies_from (first + f.len) fs)
inside_later first f fs pc le = cond-false _ _ _ (and_right _ _ (le-ltb pc (first + f.len) le))

-- an instruction of the first body fails where it does not pass there
pub fails_first : (passes : Body → Instr → Bool) (first : ℕ) (f : Function) (fs : List Function) (code : List Instr) (k : ℕ) (d : Instr) → k < f.len → f.len ≤ length code → fails_in passes first (f ∷ fs) code k ≡ not (passes (body_at first f) (get_or (take f.len code) k d))
fails_first passes first f fs code k d lt fits =
    let within : k < length code = omega arith in
    ap (λ b. is_failure passes b (slice_get code k)) (inside_first first f fs k lt)
    ∙ ap (is_failure passes (Some (body_at first f))) (slice_get-get_or code k d within)
    ∙ ap (λ x. not (passes (body_at first f) x)) (sym (get_or-take f.len code k d lt))

-- reading a list from a place on
pub slice_get-drop : {X : Type 0} (n : ℕ) (xs : List X) (k : ℕ) → slice_get (drop n xs) k ≡ slice_get xs (n + k)
slice_get-drop zero xs k = ap (slice_get xs) (sym (zero-add k))
slice_get-drop (suc n) [] k = refl
slice_get-drop (suc n) (x ∷ xs) k =
    let e : suc (n + k) ≡ suc n + k = omega arith in
    slice_get-drop n xs k ∙ ap (slice_get (x ∷ xs)) e

-- an instruction after the first body fails where it does among the rest
pub fails_later : (passes : Body → Instr → Bool) (first : ℕ) (f : Function) (fs : List Function) (code : List Instr) (k : ℕ) → fails_in passes first (f ∷ fs) code (f.len + k) ≡ fails_in passes (first + f.len) fs (drop f.len code) k
fails_later passes first f fs code k =
    let e : first + (f.len + k) ≡ first + f.len + k = omega arith in
    ap (λ b. is_failure passes b (slice_get code (f.len + k))) (inside_later first f fs (first + (f.len + k)) (omega arith) ∙ ap (λ pc. find (is_inside pc) (bodies_from (first + f.len) fs)) e)
    ∙ ap (is_failure passes (find (is_inside (first + f.len + k)) (bodies_from (first + f.len) fs))) (sym (slice_get-drop f.len code k))

-- what `position` says where it finds none
pub position-None : {X : Type 0} (p : X → Bool) (xs : List X) (d : X) → position p xs ≡ None → (k : ℕ) → k < length xs → p (get_or xs k d) ≡ false
position-None p xs d none k lt =
    elim (cases_Bool (nat_lt (position_or_len p xs) (length xs))) [
      | inl short ↦ absurd (none_some (sym none ∙ cond-true _ _ _ short))
      | inr long ↦
          let le = ltb-false _ _ long in
          let below : k < position_or_len p xs = omega arith in
          fails_before_first p xs k d below
    ]
  where
    none_some : {n : ℕ} → None ≡ Some n → ⊥
    none_some e = cc

-- the answer where the first body holds it
found_first : (passes : Body → Instr → Bool) (first : ℕ) (f : Function) (fs : List Function) (code : List Instr) (d : Instr) (n : ℕ) → f.len ≤ length code → first_inside passes first f (take f.len code) ≡ Some n → IsLowest first (fails_in passes first (f ∷ fs) code) (Some (first + n))
found_first passes first f fs code d n fits found =
    let at = position-Some (λ (x : Instr). not (passes (body_at first f) x)) (take f.len code) n d found in
    let len = length-take-le f.len code fits in
    let here : n < f.len = omega arith in
    (n, refl, fails_first passes first f fs code n d here fits ∙ at.1, λ k lt. fails_first passes first f fs code k d (omega arith) fits ∙ at.2 k lt)

-- no place of the first body fails where it holds no answer
passed_first : (passes : Body → Instr → Bool) (first : ℕ) (f : Function) (fs : List Function) (code : List Instr) (d : Instr) → f.len ≤ length code → first_inside passes first f (take f.len code) ≡ None → (k : ℕ) → k < f.len → fails_in passes first (f ∷ fs) code k ≡ false
passed_first passes first f fs code d fits none k lt =
    let len = length-take-le f.len code fits in
    let within : k < length (take f.len code) = omega arith in
    fails_first passes first f fs code k d lt fits ∙ position-None (λ (x : Instr). not (passes (body_at first f) x)) (take f.len code) d none k within

-- a place after the first body is one of the rest
behind : (test rest : ℕ → Bool) (n : ℕ) → ((k : ℕ) → test (n + k) ≡ rest k) → (k : ℕ) → n ≤ k → test k ≡ rest (k - n)
behind test rest n same k le =
    let e : k ≡ n + (k - n) = omega arith in
    ap test e ∙ same (k - n)

-- the answer of the rest is that of all, where no place of the first body fails
pub lowest_later : (test rest : ℕ → Bool) (first n : ℕ) (o : Option ℕ) → ((k : ℕ) → k < n → test k ≡ false) → ((k : ℕ) → test (n + k) ≡ rest k) → IsLowest (first + n) rest o → IsLowest first test o
lowest_later test rest first n None none same low =
    λ k. elim (cases_lt k n) [ inl lt ↦ none k lt | inr le ↦ behind test rest n same k le ∙ low (k - n) ]
lowest_later test rest first n (Some pc) none same low =
    let m = low.0 in
    let e : pc ≡ first + (n + m) = omega (arith, low.1) in (
      n + m,
      e,
      same m ∙ low.2,
      λ k lt. elim (cases_lt k n) [
        | inl here ↦ none k here
        | inr le ↦ let less : k - n < m = omega arith in behind test rest n same k le ∙ low.3 (k - n) less
      ],
    )

-- the scan answers the lowest place, counted from where the code begins
pub scan_is_lowest : (passes : Body → Instr → Bool) (first : ℕ) (fs : List Function) (code : List Instr) (d : Instr) → total_len fs ≡ length code → IsLowest first (fails_in passes first fs code) (first_failing passes first fs code)
scan_is_lowest passes first [] code d total = λ k. refl
scan_is_lowest passes first (f ∷ fs) code d total =
    let sums = sum_by-cons (λ (g : Function). g.len) f fs in
    let fits : f.len ≤ length code = omega arith in
    let rest : total_len fs ≡ length (drop f.len code) = omega (arith, length-drop f.len code) in
    by_cases (first_inside passes first f (take f.len code)) refl fits (scan_is_lowest passes (first + f.len) fs (drop f.len code) d rest)
  where
    by_cases : (o : Option ℕ) → first_inside passes first f (take f.len code) ≡ o → f.len ≤ length code → IsLowest (first + f.len) (fails_in passes (first + f.len) fs (drop f.len code)) (first_failing passes (first + f.len) fs (drop f.len code)) → IsLowest first (fails_in passes first (f ∷ fs) code) (first_place o first (first_failing passes (first + f.len) fs (drop f.len code)))
    by_cases None is fits low = lowest_later _ _ first f.len (first_failing passes (first + f.len) fs (drop f.len code)) (passed_first passes first f fs code d fits is) (fails_later passes first f fs code) low
    by_cases (Some n) is fits low = found_first passes first f fs code d n fits is

-- counted from place 0, these are the failures of the image
pub fails_at_start : (passes : Body → Instr → Bool) (i : Image) (pc : ℕ) → fails_in passes 0 i.functions i.code pc ≡ fails_at passes i pc
fails_at_start passes i pc = ap (λ q. is_failure passes (find (is_inside q) (bodies_from 0 i.functions)) (slice_get i.code pc)) (zero-add pc)

-- the lowest place counted from place 0 is the lowest of the image
pub lowest_at_start : (passes : Body → Instr → Bool) (i : Image) (o : Option ℕ) → IsLowest 0 (fails_in passes 0 i.functions i.code) o → IsLowestFailing passes i o
lowest_at_start passes i None low = λ pc. sym (fails_at_start passes i pc) ∙ low pc
lowest_at_start passes i (Some pc) low =
    let e : low.0 ≡ pc = omega (arith, low.1) in (
      ap (fails_at passes i) (sym e) ∙ sym (fails_at_start passes i low.0) ∙ low.2,
      λ other fails. elim (cases_lt other low.0) [
        | inl lt ↦ absurd (both_ways _ (low.3 other lt) (fails_at_start passes i other ∙ fails))
        | inr le ↦ omega arith
      ],
    )

-- the answer of the scan is the lowest failing place of the image
pub lowest_from_scan : (passes : Body → Instr → Bool) (i : Image) (o : Option ℕ) → IsTrue (has_ranges i) → o ≡ first_failing passes 0 i.functions i.code → IsLowestFailing passes i o
lowest_from_scan passes i o ranges is =
    let total = eqb-true (total_len i.functions) (length i.code) (and_parts _ _ ranges).1 in
    lowest_at_start passes i o (subst (IsLowest 0 (fails_in passes 0 i.functions i.code)) (sym is) (scan_is_lowest passes 0 i.functions i.code Release total))
