-- Words block by block.
use Rattle.std.specs.Int.{bit_at, bit_not}
use Rattle.std.specs.Int.Bits.{or_zero_r}
use Rattle.std.proofs.lemmas.Nat.Bits.{bit_at-zero, bit_at-lt, bit_at_and, bit_at_not, bit_at_above}
use Rattle.std.proofs.lemmas.Bool.{false_from_ne_true}
use Rattle.asl_lane_sets.proofs.Numbers.{has_tells}
use Rattle.std.proofs.Common.{◌≡◌, ◌≢◌, ◌⊎◌, ◌^◌, true, bit_and, slice_set, subst, length-set, eqb, w64, ◌↔◌, ℕ, ◌+◌, ◌-◌, ◌*◌, ◌/◌, ◌%◌, ◌<◌, ◌≤◌, false, IsTrue, List, length, get_or, bit_or, refl, sym, ap, ◌∙◌, inl, inr, arith}
use Rattle.std.proofs.lemmas.Bool.{cases_lt}
use Rattle.std.proofs.lemmas.Bool.Decides.{eqb_tells}
use Rattle.std.proofs.lemmas.List.{get_or_past, get_or-set_same, get_or-set_other}
use Rattle.std.proofs.lemmas.Simd.{get_or-chunk, length-chunk}
use lib.Lanes.{chunk}
use Rattle.asl_lane_sets.specs.Packed.{has_bit, IsCleared, AreCleared, ClearedBelow, AreJoined, Differ, JoinsAt, JoinedBelow}

pub same_lanes : (a b : List ℕ) → ¬ Differ a b → (k : ℕ) → get_or a k 0 ≡ get_or b k 0
same_lanes a b never k = elim (eqb_tells (get_or a k 0) (get_or b k 0)) [
  | inl same ↦ same.1
  | inr other ↦ absurd (never (record { place = k; different = other.1 }))
]

pub begin : (old from : List ℕ) → JoinedBelow 0 old from old
begin old from = record { count = refl; below = λ k lt. absurd (omega arith); above = λ k le. refl }

pub begin_same : (old : List ℕ) → IsTrue false ↔ Differ old old
begin_same old = (λ e. absurd cc, λ d. absurd (d.different refl))

module _ (old from now new : List ℕ) (block at : ℕ) (is_at : at ≡ block * 4) (so : JoinedBelow (4 * block) old from now) (joins : JoinsAt at now from new) where
  pub more : JoinedBelow (4 * (block + 1)) old from new
  more = record {
    count = joins.count ∙ so.count;
    below = λ k lt. elim (cases_lt k at) [
      | inl low ↦ joins.below k low ∙ so.below k (omega arith)
      | inr high ↦ joins.here k high (omega arith) ∙ ap (λ n. bit_or n (get_or from k 0)) (so.above k (omega arith))
    ];
    above = λ k le. joins.above k (omega arith) ∙ so.above k (omega arith);
  }

  pub grew_now : Differ now new → Differ old new
  grew_now d = elim (cases_lt d.place at) [
    | inl low ↦ absurd (d.different (sym (joins.below d.place low)))
    | inr high ↦ record { place = d.place; different = λ e. d.different (so.above d.place (omega arith) ∙ e) }
  ]

pub grew_before : (old now new : List ℕ) → ¬ Differ now new → Differ old now ↔ Differ old new
grew_before old now new never = (
  λ d. record { place = d.place; different = λ e. d.different (e ∙ sym (same_lanes now new never d.place)) },
  λ d. record { place = d.place; different = λ e. d.different (e ∙ same_lanes now new never d.place) },
)

pub joined_all : (old from new : List ℕ) (block : ℕ) → length from ≤ length old → length from % 4 ≡ 0 → length from / 4 ≤ block → JoinedBelow (4 * block) old from new → AreJoined old from new
joined_all old from new block le whole end so = (
  so.count,
  λ k. elim (cases_lt k (4 * block)) [
    | inl below ↦ so.below k below
    | inr past ↦
        let in_from = get_or_past from k 0 (omega (arith, whole, end, past)) in
        so.above k past ∙ sym (ap (bit_or (get_or old k 0)) in_from ∙ or_zero_r (get_or old k 0))
  ],
)

-- lanes whose bits are taken away, one after the other
pub begin_clear : (old from : List ℕ) → ClearedBelow 0 old from old
begin_clear old from = record { count = refl; below = λ k lt. absurd (omega arith); above = λ k le. refl }

pub more_clear : (old from now new : List ℕ) (place lane : ℕ) → length now ≡ length old → new ≡ slice_set now place lane → place < length now
    → IsCleared (get_or now place 0) (get_or from place 0) lane → ClearedBelow place old from now → ClearedBelow (place + 1) old from new
more_clear old from now new place lane long is there cleared so = subst (ClearedBelow (place + 1) old from) (sym is) (record {
  count = length-set now place lane ∙ so.count;
  below = λ k lt. elim (cases_lt k place) [
    | inl low ↦ subst (IsCleared (get_or old k 0) (get_or from k 0)) (sym (get_or-set_other now place k lane 0 (omega arith))) (so.below k low)
    | inr high ↦
        let same : k ≡ place = omega (arith, lt, high) in
        let here : get_or (slice_set now place lane) k 0 ≡ lane = ap (λ n. get_or (slice_set now place lane) n 0) same ∙ get_or-set_same now place lane 0 there in
        let was : get_or now place 0 ≡ get_or old k 0 = so.above place (omega arith) ∙ ap (λ n. get_or old n 0) (sym same) in
        subst (IsCleared (get_or old k 0) (get_or from k 0)) (sym here) (subst (λ w. IsCleared w (get_or from k 0) lane) was (subst (λ n. IsCleared (get_or now place 0) (get_or from n 0) lane) (sym same) cleared))
  ];
  above = λ k le. get_or-set_other now place k lane 0 (omega arith) ∙ so.above k (omega arith);
})

nothing_cleared : (a b : ℕ) → a ≡ 0 ⊎ b ≡ 0 → IsCleared a b a
nothing_cleared a b (inl none) bit = (
  λ e. (let isnt : has_bit a bit ≡ false = ap (λ w. has_bit w bit) none ∙ ap (λ n. eqb n 1) (bit_at-zero bit) in let never : false ≡ true = sym isnt ∙ e in cc),
  λ h. h.0,
)
nothing_cleared a b (inr none) bit = (λ e. (e, ap (λ w. has_bit w bit) none ∙ ap (λ n. eqb n 1) (bit_at-zero bit)), λ h. h.0)

pub cleared_all : (old from new : List ℕ) (place : ℕ) → length old ≤ place ⊎ length from ≤ place → ClearedBelow place old from new → AreCleared old from new
cleared_all old from new place end so = (
  so.count,
  λ k. elim (cases_lt k place) [
    | inl below ↦ so.below k below
    | inr past ↦ subst (IsCleared (get_or old k 0) (get_or from k 0)) (sym (so.above k past)) (nothing_cleared (get_or old k 0) (get_or from k 0) (elim end [
      | inl le ↦ inl (get_or_past old k 0 (omega (arith, le, past)))
      | inr le ↦ inr (get_or_past from k 0 (omega (arith, le, past)))
    ]))
  ],
)

-- a lane without the bits of another, as the code makes it
pub word_cleared : (a b : ℕ) → a < 2 ^ 64 → b < 2 ^ 64 → IsCleared a b (bit_and a (bit_not w64 b))
word_cleared a b fits_a fits_b bit = elim (cases_lt bit 64) [
  | inl below ↦
      let both = bit_at_and a (bit_not w64 b) bit in
      let not_b = bit_at_not w64 b bit fits_b below in
      let small_a = bit_at-lt a bit in
      let small_b = bit_at-lt b bit in (
        λ e. (let one = (has_tells _ bit).0 e in ((has_tells a bit).1 (omega arith), false_from_ne_true _ (λ t. (let is = (has_tells b bit).0 t in absurd (omega arith))))),
        λ h. (has_tells _ bit).1 (let is = (has_tells a bit).0 h.0 in let isnt : bit_at b bit ≢ 1 = (λ t. (let yes = (has_tells b bit).1 t in let no = h.1 in let never : false ≡ true = sym no ∙ yes in cc)) in omega arith),
      )
  | inr past ↦
      let both = bit_at_and a (bit_not w64 b) bit in
      let none = bit_at_above a 64 bit fits_a past in (
        λ e. (let one = (has_tells _ bit).0 e in absurd (omega arith)),
        λ h. (let is = (has_tells a bit).0 h.0 in absurd (omega arith)),
      )
]

-- a comparison of four lanes of each
pub none_added : (high low four : List ℕ) (block at : ℕ) → at ≡ block * 4 → at + 4 ≤ length high → at + 4 ≤ length low → AreJoined (chunk at 4 high) (chunk at 4 low) four → ¬ Differ (chunk at 4 high) four
    → ((k : ℕ) → k < 4 * block → get_or high k 0 ≡ bit_or (get_or high k 0) (get_or low k 0)) → (k : ℕ) → k < 4 * (block + 1) → get_or high k 0 ≡ bit_or (get_or high k 0) (get_or low k 0)
none_added high low four block at is_at room also joins never so k lt = elim (cases_lt k at) [
  | inl below ↦ so k (omega arith)
  | inr past ↦
      let j : (j : ℕ) × (at + j ≡ k) × (j < 4) = (k - at, omega arith, omega arith) in
      let of_high : get_or (chunk at 4 high) j.0 0 ≡ get_or high k 0 = get_or-chunk at 4 high j.0 0 j.2 ∙ ap (λ n. get_or high n 0) j.1 in
      let of_low : get_or (chunk at 4 low) j.0 0 ≡ get_or low k 0 = get_or-chunk at 4 low j.0 0 j.2 ∙ ap (λ n. get_or low n 0) j.1 in
      sym of_high ∙ same_lanes (chunk at 4 high) four never j.0 ∙ joins.1 j.0 ∙ ap (λ n. bit_or n (get_or (chunk at 4 low) j.0 0)) of_high ∙ ap (λ n. bit_or (get_or high k 0) n) of_low
]

pub some_added : (high low four : List ℕ) (at : ℕ) → at + 4 ≤ length high → at + 4 ≤ length low → AreJoined (chunk at 4 high) (chunk at 4 low) four → Differ (chunk at 4 high) four → ¬ AreJoined high low high
some_added high low four at room also joins d all = elim (cases_lt d.place 4) [
  | inl within ↦
      let of_high = get_or-chunk at 4 high d.place 0 within in
      let of_low = get_or-chunk at 4 low d.place 0 within in
      d.different (of_high ∙ all.1 (at + d.place) ∙ ap (λ n. bit_or n (get_or low (at + d.place) 0)) (sym of_high) ∙ ap (λ n. bit_or (get_or (chunk at 4 high) d.place 0) n) (sym of_low) ∙ sym (joins.1 d.place))
  | inr past ↦
      let long = length-chunk at 4 high room in
      let count = joins.0 in
      d.different (get_or_past (chunk at 4 high) d.place 0 (omega (arith, long)) ∙ sym (get_or_past four d.place 0 (omega (arith, long, count))))
]

pub within_all : (high low : List ℕ) (block : ℕ) → length low ≡ length high → length low % 4 ≡ 0 → length low / 4 ≤ block
    → ((k : ℕ) → k < 4 * block → get_or high k 0 ≡ bit_or (get_or high k 0) (get_or low k 0)) → AreJoined high low high
within_all high low block same whole end so = (
  refl,
  λ k. elim (cases_lt k (4 * block)) [
    | inl below ↦ so k below
    | inr past ↦
        let in_high = get_or_past high k 0 (omega arith) in
        let in_low = get_or_past low k 0 (omega arith) in
        rw (in_high, in_low)
  ],
)
