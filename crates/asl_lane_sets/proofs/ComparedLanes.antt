-- Vectors of four lanes: where two differ, and the bits of either.
use Rattle.std.proofs.Common.{◌≡◌, ◌≢◌, ◌↔◌, ℕ, zero, suc, ◌+◌, ◌-◌, ◌%◌, ◌^◌, ◌<◌, ◌≤◌, Bool, true, false, not, cond, eqb, IsTrue, List, [], ◌∷◌, map, length, get_or, bit_or, refl, sym, ap, ◌∙◌, inl, inr, arith, w64, eq-eqb}
use Rattle.std.proofs.lemmas.Bool.{cases_lt}
use Rattle.std.proofs.lemmas.Bool.Decides.{eqb_tells}
use Rattle.std.proofs.lemmas.List.{get_or_past}
use Rattle.std.proofs.lemmas.Simd.{length-zip2, get_or-zip2, mask_l-mod, tops_compared, get_or-chunk, get_or-put_chunk_below, get_or-put_chunk_at, get_or-put_chunk_above, length-put_chunk, length-chunk}
use lib.Lanes.{zip2, mask_l, top, chunk, put_chunk}
use Rattle.asl_lane_sets.specs.Packed.{AreJoined, Differ, JoinsAt}

abbrev pub ne : ℕ → ℕ → Bool
ne a b = not (eqb a b)

abbrev pub lane : ℕ → ℕ → ℕ
lane a b = cond (ne a b) (2 ^ 64 - 1) 0

flag-same : (a b : ℕ) → a ≡ b → cond {A = ℕ} (ne a b) 1 0 ≡ 0
flag-same a b e = ap (λ t. cond {A = ℕ} (not t) 1 0) (eq-eqb a b e)

flag-other : (a b : ℕ) → cond {A = ℕ} (ne a b) 1 0 ≡ 0 → a ≡ b
flag-other a b e = elim (eqb_tells a b) [
  | inl same ↦ same.1
  | inr other ↦ let is : cond {A = ℕ} (ne a b) 1 0 ≡ 1 = ap (λ t. cond {A = ℕ} (not t) 1 0) other.0 in absurd (omega arith)
]

-- no lane differs, or one does
pub mask_none : (xs ys : List ℕ) → length xs ≡ length ys → mask_l (zip2 ne xs ys) ≡ 0 → (k : ℕ) → get_or xs k 0 ≡ get_or ys k 0
mask_none [] [] long none k = refl
mask_none [] (y ∷ ys) long none k = absurd (omega arith)
mask_none (x ∷ xs) [] long none k = absurd (omega arith)
mask_none (x ∷ xs) (y ∷ ys) long none zero = flag-other x y (omega arith)
mask_none (x ∷ xs) (y ∷ ys) long none (suc k) = mask_none xs ys (omega arith) (omega arith) k

pub mask_some : (xs ys : List ℕ) → length xs ≡ length ys → 0 < mask_l (zip2 ne xs ys) → Differ xs ys
mask_some [] [] long some = absurd (omega arith)
mask_some [] (y ∷ ys) long some = absurd (omega arith)
mask_some (x ∷ xs) [] long some = absurd (omega arith)
mask_some (x ∷ xs) (y ∷ ys) long some = elim (eqb_tells x y) [
  | inl same ↦
      let none = flag-same x y same.1 in
      let d = mask_some xs ys (omega arith) (omega arith) in
      record { place = suc d.place; different = d.different }
  | inr other ↦ record { place = 0; different = other.1 }
]

pub mask_differ : (xs ys : List ℕ) → length xs ≡ length ys → Differ xs ys → mask_l (zip2 ne xs ys) ≢ 0
mask_differ xs ys long d none = d.different (mask_none xs ys long none d.place)

-- what the mask of a comparison tells
pub differ_tells : (xs ys : List ℕ) → length xs ≡ 4 → length ys ≡ 4
    → IsTrue (not (eqb (mask_l (map (top 63) (zip2 lane xs ys)) % 2 ^ 64) 0)) ↔ Differ xs ys
differ_tells xs ys four also =
    let long : length xs ≡ length ys = four ∙ sym also in
    let few : length (zip2 ne xs ys) ≤ 64 = omega (arith, length-zip2 ne xs ys long) in
    let is : mask_l (map (top 63) (zip2 lane xs ys)) % 2 ^ 64 ≡ mask_l (zip2 ne xs ys) = ap (λ ms. mask_l ms % 2 ^ 64) (tops_compared w64 ne xs ys) ∙ mask_l-mod (zip2 ne xs ys) 64 few in (
      λ t. elim (eqb_tells (mask_l (map (top 63) (zip2 lane xs ys)) % 2 ^ 64) 0) [
        | inl none ↦ let never : false ≡ true = sym (ap not none.0) ∙ t in cc
        | inr some ↦ let not_none = some.1 in mask_some xs ys long (omega (arith, is))
      ],
      λ d. elim (eqb_tells (mask_l (map (top 63) (zip2 lane xs ys)) % 2 ^ 64) 0) [
        | inl none ↦ absurd (mask_differ xs ys long d (sym is ∙ none.1))
        | inr some ↦ ap not some.0
      ],
    )

-- the bits of either, lane by lane
pub joined_lanes : (xs ys : List ℕ) → length xs ≡ length ys → AreJoined xs ys (zip2 bit_or xs ys)
joined_lanes xs ys long = (
  length-zip2 bit_or xs ys long,
  λ k. elim (cases_lt k (length xs)) [
    | inl below ↦ get_or-zip2 bit_or xs ys k 0 0 0 below (omega (arith, long))
    | inr past ↦
        let over = get_or_past (zip2 bit_or xs ys) k 0 (omega (arith, length-zip2 bit_or xs ys long)) in
        let in_xs = get_or_past xs k 0 past in
        let in_ys = get_or_past ys k 0 (omega (arith, long)) in
        rw (over, in_xs, in_ys)
  ],
)

-- four lanes are put back in their place
module _ (at : ℕ) (old from four : List ℕ) (old_long : at + 4 ≤ length old) (from_long : at + 4 ≤ length from) (joins : AreJoined (chunk at 4 old) (chunk at 4 from) four) where
  four_long : length four ≡ 4
  four_long = joins.0 ∙ length-chunk at 4 old old_long

  pub joined_at : JoinsAt at old from (put_chunk at old four)
  joined_at = record {
    count = length-put_chunk at old four;
    here = λ k low high.
        let same : at + (k - at) ≡ k = omega arith in
        let put : get_or (put_chunk at old four) (at + (k - at)) 0 ≡ get_or four (k - at) 0 = get_or-put_chunk_at at old four (k - at) 0 (omega (arith, four_long)) (omega (arith, four_long)) in
        let of_old : get_or (chunk at 4 old) (k - at) 0 ≡ get_or old (at + (k - at)) 0 = get_or-chunk at 4 old (k - at) 0 (omega arith) in
        let of_from : get_or (chunk at 4 from) (k - at) 0 ≡ get_or from (at + (k - at)) 0 = get_or-chunk at 4 from (k - at) 0 (omega arith) in
        ap (λ n. get_or (put_chunk at old four) n 0) (sym same) ∙ put ∙ joins.1 (k - at)
        ∙ ap (λ n. bit_or n (get_or (chunk at 4 from) (k - at) 0)) (of_old ∙ ap (λ n. get_or old n 0) same)
        ∙ ap (λ n. bit_or (get_or old k 0) n) (of_from ∙ ap (λ n. get_or from n 0) same);
    below = λ k low. get_or-put_chunk_below at old four k 0 low;
    above = λ k high. get_or-put_chunk_above at old four k 0 (omega (arith, four_long));
  }

  -- they differ where the four do
  pub differ_at : Differ (chunk at 4 old) four ↔ Differ old (put_chunk at old four)
  differ_at = (
    λ d. elim (cases_lt d.place 4) [
      | inl within ↦
          record {
            place = at + d.place;
            different = λ e. d.different (get_or-chunk at 4 old d.place 0 within ∙ e ∙ get_or-put_chunk_at at old four d.place 0 (omega (arith, four_long)) (omega (arith, four_long)));
          }
      | inr past ↦
          absurd (d.different (get_or_past (chunk at 4 old) d.place 0 (omega (arith, length-chunk at 4 old old_long)) ∙ sym (get_or_past four d.place 0 (omega (arith, four_long)))))
    ],
    λ d. elim (cases_lt d.place at) [
      | inl low ↦ absurd (d.different (sym (get_or-put_chunk_below at old four d.place 0 low)))
      | inr high ↦ elim (cases_lt d.place (at + 4)) [
        | inl within ↦
            let same : at + (d.place - at) ≡ d.place = omega arith in
            record {
              place = d.place - at;
              different = λ e. d.different (
                  ap (λ n. get_or old n 0) (sym same) ∙ sym (get_or-chunk at 4 old (d.place - at) 0 (omega arith)) ∙ e
                  ∙ sym (get_or-put_chunk_at at old four (d.place - at) 0 (omega (arith, four_long)) (omega (arith, four_long))) ∙ ap (λ n. get_or (put_chunk at old four) n 0) same);
            }
        | inr past ↦ absurd (d.different (sym (get_or-put_chunk_above at old four d.place 0 (omega (arith, four_long)))))
      ]
    ],
  )
