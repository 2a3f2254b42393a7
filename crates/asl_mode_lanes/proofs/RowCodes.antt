-- Codes of a row by their bits.
use Rattle.std.proofs.Common.{◌≡◌, ◌≢◌, ◌↔◌, ℕ, ◌<◌, ◌≤◌, Bool, true, false, not, List, [], ◌∷◌, zero, suc, get_or, length, slice_index, bit_or, IsBitSet, take, map, arith, ap, ◌∙◌, inl, inr, subst, sym, refl}
use Rattle.std.specs.Simd.Lanes.{mask_l}
use Rattle.std.proofs.lemmas.Bool.{cases_lt, not-true}
use Rattle.std.proofs.lemmas.List.{get_or_past}
use Rattle.asl_mode_lanes.specs.declared.mode.Mode.{Mode}
use Rattle.asl_mode_lanes.specs.Mode.{code_of, join_of, is_compatible}
use Rattle.asl_mode_lanes.specs.Row.{mode_of, mode_at, IsCode, IsRow, IsConflict}
use Rattle.asl_mode_lanes.specs.Clash.{against, clashes}
use Rattle.asl_mode_lanes.proofs.ModeLaws.{mode_of-code_of, code_of-join_of, clashes-is_compatible}
use Rattle.asl_mode_lanes.proofs.Rows.{Joined}
use Rattle.asl_mode_lanes.proofs.Masks.{told}

clashes_row : (code : ℕ) (want : Mode) → IsCode code → clashes (against want) code ≡ not (is_compatible (mode_of code) want)
clashes_row code want is = ap (clashes (against want)) (sym is) ∙ clashes-is_compatible (mode_of code) want

any_default : (xs : List ℕ) (k d : ℕ) → k < length xs → slice_index xs k ≡ get_or xs k d
any_default [] k d there = absurd (omega arith)
any_default (x ∷ xs) zero d there = refl
any_default (x ∷ xs) (suc k) d there = any_default xs k d (omega arith)

not_not : (b : Bool) → not b ≡ true → b ≡ false
not_not = not-true

not_of : (b : Bool) → b ≡ false → not b ≡ true
not_of b e = ap not e

-- the mask of the codes that have a bit against a mode, less the thread's own bit, is the threads in the way
pub in_the_way : (row : List ℕ) (own : ℕ) (want : Mode) (n mask bits result : ℕ) → IsRow row → bits ≡ against want → length row ≤ n
    → mask ≡ mask_l (map (clashes bits) (take n row))
    → ((t : ℕ) → IsBitSet result t ↔ (IsBitSet mask t × (t ≢ own)))
    → (t : ℕ) → IsBitSet result t ↔ IsConflict row own want t
in_the_way row own want n mask bits result codes by whole is less t =
    let bit = told (clashes bits) row n mask whole is t in
    let rule : t < length row → clashes bits (slice_index row t) ≡ not (is_compatible (mode_at row t) want) =
    λ there. ap (λ b. clashes b (slice_index row t)) by ∙ clashes_row (slice_index row t) want (codes t 0 there) in (
      λ set.
          let mine = (less t).0 set in
          let found = bit.0 mine.0 in
          record { there = found.0; other = mine.1; excludes = not_not _ (sym (rule found.0) ∙ found.1) },
      λ way. (less t).1 (bit.1 (way.there, rule way.there ∙ not_of _ way.excludes), way.other),
    )

-- on codes the bitwise or is the join
join_codes : (a b : ℕ) → IsCode a → IsCode b → bit_or a b ≡ code_of (join_of (mode_of a) (mode_of b))
join_codes a b p q = (λ i. bit_or (sym p i) (sym q i)) ∙ sym (code_of-join_of (mode_of a) (mode_of b))

module _ (start row from : List ℕ) (done : ℕ) (all : Joined start row from done) (whole : length start ≤ done)
    (same : length start ≡ length from) (start_codes : IsRow start) (from_codes : IsRow from) where
  joined_code : (t : ℕ) → t < length row → slice_index row t ≡ code_of (join_of (mode_at start t) (mode_at from t))
  joined_code t there =
      let fits = all.same_length in
      all.joined t (omega (arith, fits))
      ∙ join_codes (slice_index start t) (slice_index from t) (start_codes t 0 (omega (arith, fits))) (from_codes t 0 (omega (arith, fits)))

  pub joined_codes : (t d : ℕ) → t < length row → IsCode (get_or row t d)
  joined_codes t d there =
      subst IsCode (sym (joined_code t there) ∙ any_default row t d there) (ap code_of (mode_of-code_of (join_of (mode_at start t) (mode_at from t))))

  pub joined_modes : (t : ℕ) → mode_at row t ≡ join_of (mode_at start t) (mode_at from t)
  joined_modes t = elim (cases_lt t (length row)) [
    | inl below ↦ ap mode_of (joined_code t below) ∙ mode_of-code_of (join_of (mode_at start t) (mode_at from t))
    | inr past ↦
        let fits = all.same_length in
        let in_row = get_or_past row t 0 past in
        let in_start = get_or_past start t 0 (omega (arith, fits)) in
        let in_from = get_or_past from t 0 (omega (arith, fits)) in
        rw (in_row, in_start, in_from)
  ]
