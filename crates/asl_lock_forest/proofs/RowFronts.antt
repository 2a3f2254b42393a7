-- What is told of a row by its front, which has the codes of all threads that hold something.
use Rattle.std.proofs.Common.{◌≡◌, ◌≢◌, ◌↔◌, ℕ, ◌<◌, ◌≤◌, true, false, List, length, take, refl, ap, sym, subst, ◌∙◌, inl, inr, arith, ◌==◌, ◌^◌, IsBitSet}
use Rattle.std.specs.Int.{bit_at}
use Rattle.std.proofs.lemmas.Bool.{cases_lt, eqb-true}
use Rattle.std.proofs.lemmas.List.{get_or-take, length-take-le}
use Rattle.std.proofs.lemmas.Nat.{bit_set_by_shift}
use Rattle.std.proofs.lemmas.Nat.Bits.{shr_and_one, bit_at_above}
use Rattle.asl_mode_lanes.specs.declared.mode.Mode.{Mode}
use Rattle.asl_mode_lanes.specs.declared.mode.Mode.TheVariants.{NL}
use Rattle.asl_mode_lanes.specs.Mode.{is_compatible, AreCompatible}
use Rattle.asl_mode_lanes.specs.Row.{mode_at, mode_of, IsConflict}
use Rattle.asl_lock_forest.proofs.RequestRows.{some_bit}

no_bit : (mask t : ℕ) → (mask == 0) ≡ true → IsBitSet mask t → ⊥
no_bit mask t none set =
    let is : mask ≡ 0 = eqb-true mask 0 none in
    let zero_there : bit_at mask t ≡ 0 = bit_at_above mask 0 t (omega (arith, is)) (omega arith) in
    let one_there = sym (shr_and_one mask t) ∙ (bit_set_by_shift mask t).1 set in
    absurd (omega (arith, zero_there, one_there))

module _ (row : List ℕ) (used : ℕ) (there : used ≤ length row) (t : ℕ) (want : Mode) (mask : ℕ)
    (tells : (other : ℕ) → IsBitSet mask other ↔ IsConflict (take used row) t want other) where
  same_mode : (other : ℕ) → other < used → mode_at (take used row) other ≡ mode_at row other
  same_mode other below = ap mode_of (get_or-take used row other 0 below)

  -- no thread keeps this one from the mode where none does in front, and nothing is held past it
  pub free_by_front : ((other : ℕ) → used ≤ other → mode_at row other ≡ NL) → (mask == 0) ≡ true
      → (other : ℕ) → other ≢ t → AreCompatible (mode_at row other) want
  free_by_front nobody none other apart = elim (cases_lt other used) [
    | inl below ↦ elim (is_compatible (mode_at row other) want) as (λ b. is_compatible (mode_at row other) want ≡ b → b ≡ true) [
      | true ↦ λ _. refl
      | false ↦ λ clash. absurd (no_bit mask other none ((tells other).1 (record {
        there = omega (arith, below, length-take-le used row there);
        other = apart;
        excludes = ap (λ m. is_compatible m want) (same_mode other below) ∙ clash;
      })))
    ] refl
    | inr past ↦ subst (λ m. AreCompatible m want) (sym (nobody other past)) refl
  ]

  -- who does in front does so in the row
  pub blocked_by_front : mask < 2 ^ 128 → (mask == 0) ≡ false → (other : ℕ) × (other ≢ t) × (is_compatible (mode_at row other) want ≡ false)
  blocked_by_front fits some =
      let bit = some_bit mask fits some in
      let way = (tells bit.0).0 bit.1 in
      let below : bit.0 < used = let inside = way.there in omega (arith, inside, length-take-le used row there) in
      (bit.0, way.other, ap (λ m. is_compatible m want) (sym (same_mode bit.0 below)) ∙ way.excludes)
