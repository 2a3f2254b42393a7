-- A row of which more and more codes are joined.
use Rattle.std.proofs.Common.{◌≡◌, ℕ, ◌+◌, ◌-◌, ◌<◌, ◌≤◌, ◌&&◌, leb, ltb, Bool, true, false, if◌then◌else◌, suc, List, length, slice_index, slice_set, bit_or, arith, ap, ◌∙◌, inl, inr, subst, sym, refl}
use Rattle.std.specs.Simd.Lanes.{chunk, put_chunk, zip2}
use Rattle.std.proofs.lemmas.Simd.{length-chunk, length-zip2, get_or-zip2, get_or-chunk, get_or-put_chunk_below, get_or-put_chunk_at, get_or-put_chunk_above}
use Rattle.std.proofs.lemmas.List.{get_or-set_same, get_or-set_other, length-set}
use Rattle.std.proofs.lemmas.Bool.Decides.{eqb_tells, leb_tells}

-- each code below `done` is joined, and each from there on is as it was
pub record Joined (start row from : List ℕ) (done : ℕ) : Type 0 where
  pub joined : (t : ℕ) → t < done → slice_index row t ≡ bit_or (slice_index start t) (slice_index from t)
  pub ahead : (t : ℕ) → done ≤ t → slice_index row t ≡ slice_index start t
  pub same_length : length row ≡ length start

both : (a b : Bool) → a ≡ true → b ≡ true → (a && b) ≡ true
both a b p q = ap (λ x. x && b) p ∙ q

second : (a b : Bool) → b ≡ false → (a && b) ≡ false
second true b q = q
second false b q = refl

-- the codes joined from `at` on, for n places
abbrev pub joined_at : List ℕ → List ℕ → ℕ → ℕ → List ℕ
joined_at into from at n = put_chunk at into (zip2 bit_or (chunk at n into) (chunk at n from))

module _ (into from : List ℕ) (at n : ℕ) (into_there : at + n ≤ length into) (from_there : at + n ≤ length from) where
  long : length (zip2 bit_or (chunk at n into) (chunk at n from)) ≡ n
  long =
      let a = length-chunk at n into into_there in
      let b = length-chunk at n from from_there in
      length-zip2 bit_or (chunk at n into) (chunk at n from) (a ∙ sym b) ∙ a

  pub put_below : (t : ℕ) → t < at → slice_index (joined_at into from at n) t ≡ slice_index into t
  put_below t below = get_or-put_chunk_below at into (zip2 bit_or (chunk at n into) (chunk at n from)) t 0 below

  pub put_above : (t : ℕ) → at + n ≤ t → slice_index (joined_at into from at n) t ≡ slice_index into t
  put_above t above = get_or-put_chunk_above at into (zip2 bit_or (chunk at n into) (chunk at n from)) t 0 (omega (arith, long))

  put_inside : (j : ℕ) → j < n → slice_index (joined_at into from at n) (at + j) ≡ bit_or (slice_index into (at + j)) (slice_index from (at + j))
  put_inside j within =
      let a = length-chunk at n into into_there in
      let b = length-chunk at n from from_there in
      get_or-put_chunk_at at into (zip2 bit_or (chunk at n into) (chunk at n from)) j 0 (omega (arith, long)) (omega (arith, long))
      ∙ get_or-zip2 bit_or (chunk at n into) (chunk at n from) j 0 0 0 (omega (arith, a)) (omega (arith, b))
      ∙ (λ i. bit_or (get_or-chunk at n into j 0 within i) (get_or-chunk at n from j 0 within i))

  pub put_at : (t : ℕ) → at ≤ t → t < at + n → slice_index (joined_at into from at n) t ≡ bit_or (slice_index into t) (slice_index from t)
  put_at t low high =
      let is : at + (t - at) ≡ t = omega arith in
      subst (λ m. slice_index (joined_at into from at n) m ≡ bit_or (slice_index into m) (slice_index from m)) is (put_inside (t - at) (omega arith))

  pub put_joined : (t : ℕ) → slice_index (joined_at into from at n) t
      ≡ (if leb at t && ltb t (at + n) then bit_or (slice_index into t) (slice_index from t) else slice_index into t)
  put_joined t = elim (leb_tells at t) [
    | inl low ↦ elim (leb_tells (suc t) (at + n)) [
      | inl high ↦ put_at t low.1 (omega (arith, high.1)) ∙ sym (ap (λ b. if b then bit_or (slice_index into t) (slice_index from t) else slice_index into t) (both (leb at t) (ltb t (at + n)) low.0 (high.0)))
      | inr past ↦ put_above t (omega (arith, past.1)) ∙ sym (ap (λ b. if b then bit_or (slice_index into t) (slice_index from t) else slice_index into t) (second (leb at t) (ltb t (at + n)) past.0))
    ]
    | inr below ↦ put_below t below.1 ∙ sym (ap (λ b. if b && ltb t (at + n) then bit_or (slice_index into t) (slice_index from t) else slice_index into t) below.0)
  ]

-- one more code, or one more chunk, is joined
pub chunk_joined : (start row new from : List ℕ) (at : ℕ) → Joined start row from at
    → ((t : ℕ) → slice_index new t ≡ (if leb at t && ltb t (at + 16) then bit_or (slice_index row t) (slice_index from t) else slice_index row t))
    → length new ≡ length row → Joined start new from (at + 16)
chunk_joined start row new from at before is same = record {
  joined = λ t below. elim (leb_tells at t) [
    | inl low ↦
        let high : ltb t (at + 16) ≡ true = elim (leb_tells (suc t) (at + 16)) [ inl h ↦ h.0 | inr h ↦ absurd (omega (arith, h.1)) ] in
        is t ∙ ap (λ b. if b then bit_or (slice_index row t) (slice_index from t) else slice_index row t) (both (leb at t) (ltb t (at + 16)) low.0 high)
        ∙ ap (λ v. bit_or v (slice_index from t)) (before.ahead t low.1)
    | inr high ↦
        is t ∙ ap (λ b. if b && ltb t (at + 16) then bit_or (slice_index row t) (slice_index from t) else slice_index row t) high.0
        ∙ before.joined t high.1
  ];
  ahead = λ t above.
      let past : ltb t (at + 16) ≡ false = elim (leb_tells (suc t) (at + 16)) [ inl h ↦ absurd (omega (arith, h.1)) | inr h ↦ h.0 ] in
      is t ∙ ap (λ b. if b then bit_or (slice_index row t) (slice_index from t) else slice_index row t) (second (leb at t) (ltb t (at + 16)) past)
      ∙ before.ahead t (omega arith);
  same_length = same ∙ before.same_length;
}

pub code_joined : (start row from : List ℕ) (t : ℕ) → Joined start row from t → t < length row
    → Joined start (slice_set row t (bit_or (slice_index row t) (slice_index from t))) from (t + 1)
code_joined start row from t before there =
    let new = slice_set row t (bit_or (slice_index row t) (slice_index from t)) in
    record {
      joined = λ k below. elim (eqb_tells k t) [
        | inl here ↦
            let at_t : slice_index new t ≡ bit_or (slice_index start t) (slice_index from t) =
            get_or-set_same row t (bit_or (slice_index row t) (slice_index from t)) 0 there ∙ ap (λ v. bit_or v (slice_index from t)) (before.ahead t (omega arith)) in
            subst (λ n. slice_index new n ≡ bit_or (slice_index start n) (slice_index from n)) (sym here.1) at_t
        | inr other ↦ get_or-set_other row t k (bit_or (slice_index row t) (slice_index from t)) 0 other.1 ∙ before.joined k (omega (arith, other.1))
      ];
      ahead = λ k above. get_or-set_other row t k (bit_or (slice_index row t) (slice_index from t)) 0 (λ same. absurd (omega (arith, same))) ∙ before.ahead k (omega arith);
      same_length = length-set row t (bit_or (slice_index row t) (slice_index from t)) ∙ before.same_length;
    }
