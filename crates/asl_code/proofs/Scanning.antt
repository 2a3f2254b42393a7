-- One step of the verifier's loops over the functions.
use Rattle.std.proofs.Common.{◌≡◌, ℕ, ◌+◌, ◌-◌, ◌<◌, ◌≤◌, Bool, true, false, not, ◌&&◌, List, [], ◌∷◌, Option, Some, None, length, get_or, take, drop, position, ap, sym, ◌∙◌, arith}
use Rattle.std.specs.List.{list_all}
use Rattle.std.proofs.lemmas.List.{at_drop_more}
use Rattle.std.proofs.lemmas.List.Sums.{sum_by-drop_more}
use Rattle.asl_code.specs.Bodies.{Body, bodies_from, total_len}
use Rattle.asl_code.specs.Rules.{body_at}
use Rattle.std.specs.Option.{option_map_or}
use Rattle.std.proofs.lemmas.Option.{slice_get-get_or}
use Rattle.std.proofs.lemmas.Bool.{and_parts, and_left, ltb-true}
use Rattle.asl_code.specs.Verified.{is_end, has_end, has_range}
use Rattle.asl_code.specs.declared.image.Function.{Function}
use Rattle.asl_code.specs.declared.instr.Instr.{Instr}

-- the place of the first instruction of the body that does not pass
abbrev pub first_inside : (Body → Instr → Bool) → ℕ → Function → List Instr → Option ℕ
first_inside passes first f body = position (λ (instr : Instr). not (passes (body_at first f) instr)) body

-- the first place if there is one, else the later one
abbrev pub first_place : Option ℕ → ℕ → Option ℕ → Option ℕ
first_place (Some k) first later = Some (first + k)
first_place None first later = later

-- the place of the first instruction that does not pass, where this code is that of these functions, and begins here
abbrev pub first_failing : (Body → Instr → Bool) → ℕ → List Function → List Instr → Option ℕ
first_failing passes first [] code = None
first_failing passes first (f ∷ fs) code =
    first_place (first_inside passes first f (take f.len code)) first (first_failing passes (first + f.len) fs (drop f.len code))

-- the scan from a function on: its own body, then those of the rest
pub scan_more : (passes : Body → Instr → Bool) (first : ℕ) (fs : List Function) (code : List Instr) (k : ℕ) (d : Function) → k < length fs → first_failing passes first (drop k fs) code ≡ first_place (first_inside passes first (get_or fs k d) (take (get_or fs k d).len code)) first (first_failing passes (first + (get_or fs k d).len) (drop (k + 1) fs) (drop (get_or fs k d).len code))
scan_more passes first fs code k d lt = at_drop_more (λ (gs : List Function). first_failing passes first gs code) fs k d lt

-- the scan where the function's body holds the answer
pub scan_found : (passes : Body → Instr → Bool) (first : ℕ) (fs : List Function) (code body : List Instr) (k : ℕ) (d : Function) (r : Option ℕ) (n : ℕ) → k < length fs → body ≡ take (get_or fs k d).len code → r ≡ first_inside passes first (get_or fs k d) body → r ≡ Some n → first_failing passes first (drop k fs) code ≡ Some (first + n)
scan_found passes first fs code body k d r n lt front at is =
    scan_more passes first fs code k d lt
    ∙ ap (λ o. first_place o first (first_failing passes (first + (get_or fs k d).len) (drop (k + 1) fs) (drop (get_or fs k d).len code)))
    (ap (first_inside passes first (get_or fs k d)) (sym front) ∙ sym at ∙ is)

-- the scan where it holds none
pub scan_passed : (passes : Body → Instr → Bool) (first : ℕ) (fs : List Function) (code body later : List Instr) (k : ℕ) (d : Function) (r : Option ℕ) → k < length fs → body ≡ take (get_or fs k d).len code → later ≡ drop (get_or fs k d).len code → length body ≡ (get_or fs k d).len → r ≡ first_inside passes first (get_or fs k d) body → r ≡ None → first_failing passes (first + length body) (drop (k + 1) fs) later ≡ first_failing passes first (drop k fs) code
scan_passed passes first fs code body later k d r lt front back len at is =
    ap (λ n. first_failing passes (first + n) (drop (k + 1) fs) later) len
    ∙ ap (first_failing passes (first + (get_or fs k d).len) (drop (k + 1) fs)) back
    ∙ sym (scan_more passes first fs code k d lt
    ∙ ap (λ o. first_place o first (first_failing passes (first + (get_or fs k d).len) (drop (k + 1) fs) (drop (get_or fs k d).len code)))
    (ap (first_inside passes first (get_or fs k d)) (sym front) ∙ sym at ∙ is))

-- the length of the functions from one on
pub total_more : (fs : List Function) (k : ℕ) (d : Function) → k < length fs → total_len (drop k fs) ≡ (get_or fs k d).len + total_len (drop (k + 1) fs)
total_more fs k d lt = sum_by-drop_more (λ (f : Function). f.len) fs k d lt

-- the test of the bodies from a function on
pub bodies_more : (test : Body → Bool) (first : ℕ) (fs : List Function) (k : ℕ) (d : Function) → k < length fs → list_all test (bodies_from first (drop k fs)) ≡ (test (body_at first (get_or fs k d)) && list_all test (bodies_from (first + (get_or fs k d).len) (drop (k + 1) fs)))
bodies_more test first fs k d lt = at_drop_more (λ (gs : List Function). list_all test (bodies_from first gs)) fs k d lt

-- the test of the functions from one on
pub functions_more : (test : Function → Bool) (fs : List Function) (k : ℕ) (d : Function) → k < length fs → list_all test (drop k fs) ≡ (test (get_or fs k d) && list_all test (drop (k + 1) fs))
functions_more test fs k d lt = at_drop_more (list_all test) fs k d lt

-- the test of a body's last instruction, which the code reads at its place
pub end_at : (code : List Instr) (first : ℕ) (f : Function) (d : Instr) (r : Bool) → has_range f ≡ true → first + f.len ≤ length code → r ≡ is_end (get_or code (first + f.len - 1) d) → has_end code (body_at first f) ≡ r
end_at code first f d r range fits is =
    let some = ltb-true 0 f.len (and_parts _ _ range).0 in
    let last : first + f.len - 1 < length code = omega arith in
    ap (λ o. option_map_or is_end o false) (slice_get-get_or code (first + f.len - 1) d last) ∙ sym is

-- the test of the bodies where the first of them fails it
pub bodies_fail : (test : Body → Bool) (first : ℕ) (fs : List Function) (k : ℕ) (d : Function) → k < length fs → test (body_at first (get_or fs k d)) ≡ false → list_all test (bodies_from first (drop k fs)) ≡ false
bodies_fail test first fs k d lt fails =
    bodies_more test first fs k d lt ∙ and_left _ _ fails

-- the test of the bodies where the first of them passes it
pub bodies_pass : (test : Body → Bool) (first : ℕ) (fs : List Function) (k : ℕ) (d : Function) → k < length fs → test (body_at first (get_or fs k d)) ≡ true → list_all test (bodies_from (first + (get_or fs k d).len) (drop (k + 1) fs)) ≡ list_all test (bodies_from first (drop k fs))
bodies_pass test first fs k d lt passes =
    sym (bodies_more test first fs k d lt ∙ ap (λ b. b && list_all test (bodies_from (first + (get_or fs k d).len) (drop (k + 1) fs))) passes)
