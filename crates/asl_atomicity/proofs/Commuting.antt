-- Two neighbouring numbers that change places.
use Rattle.std.proofs.Common.{◌≡◌, ◌≢◌, ℕ, ◌+◌, ◌==◌, ◌<◌, ◌≤◌, refl, ap, sym, ◌∙◌, subst, inl, inr, arith}
use Rattle.std.specs.Prelude.{if◌then◌else◌}
use Rattle.std.proofs.lemmas.Bool.Decides.{eqb_tells}
use Rattle.asl_atomicity.specs.Renamed.{Renaming}

-- ---- two neighbouring numbers change places

abbrev pub crossed : ℕ → ℕ → ℕ
crossed n k = if k == n then n + 1 else if k == n + 1 then n else k

pub crossed_first : (n : ℕ) → crossed n n ≡ n + 1
crossed_first n = elim (eqb_tells n n) [
  | inl same ↦ ap (λ b. if b then n + 1 else if n == n + 1 then n else n) same.0
  | inr apart ↦ absurd (apart.1 refl)
]

pub crossed_second : (n k : ℕ) → k ≡ n + 1 → crossed n k ≡ n
crossed_second n k e = elim (eqb_tells k n) [
  | inl same ↦ absurd (beyond n k e same.1)
  | inr apart ↦ ap (λ b. if b then n + 1 else if k == n + 1 then n else k) apart.0 ∙ elim (eqb_tells k (n + 1)) [
    | inl same ↦ ap (λ b. if b then n else k) same.0
    | inr away ↦ absurd (away.1 e)
  ]
]
  where
    beyond : (n k : ℕ) → k ≡ n + 1 → k ≡ n → ⊥
    beyond n k e same = omega arith

pub crossed_other : (n k : ℕ) → k ≢ n → k ≢ n + 1 → crossed n k ≡ k
crossed_other n k ne also = elim (eqb_tells k n) [
  | inl same ↦ absurd (ne same.1)
  | inr apart ↦ ap (λ b. if b then n + 1 else if k == n + 1 then n else k) apart.0 ∙ elim (eqb_tells k (n + 1)) [
    | inl same ↦ absurd (also same.1)
    | inr away ↦ ap (λ b. if b then n else k) away.0
  ]
]

pub crossed_twice : (n k : ℕ) → crossed n (crossed n k) ≡ k
crossed_twice n k = elim (eqb_tells k n) [
  | inl same ↦ ap (λ z. crossed n (crossed n z)) same.1 ∙ ap (crossed n) (crossed_first n) ∙ crossed_second n (n + 1) refl ∙ sym same.1
  | inr apart ↦ elim (eqb_tells k (n + 1)) [
    | inl same ↦ ap (crossed n) (crossed_second n k same.1) ∙ crossed_first n ∙ sym same.1
    | inr away ↦ ap (crossed n) (crossed_other n k apart.1 away.1) ∙ crossed_other n k apart.1 away.1
  ]
]

abbrev pub crossing : ℕ → Renaming
crossing n = record { new = crossed n; old = crossed n; onto = crossed_twice n; into = crossed_twice n }

below_apart : (n k : ℕ) → k < n → (k ≢ n) × (k ≢ n + 1)
below_apart n k lt = (λ e. omega (arith, lt, e), λ e. omega (arith, lt, e))

pub below_stays : (n k : ℕ) → k < n → crossed n k ≡ k
below_stays n k lt = crossed_other n k (below_apart n k lt).0 (below_apart n k lt).1

pub above_apart : (n k : ℕ) → n + 1 + 1 ≤ k → (k ≢ n) × (k ≢ n + 1)
above_apart n k le = (λ e. omega (arith, le, e), λ e. omega (arith, le, e))

pub crossed_past : (n k : ℕ) → n ≤ k → n ≤ crossed n k
crossed_past n k le = elim (eqb_tells k n) [
  | inl same ↦ subst (λ z. n ≤ z) (sym (ap (crossed n) same.1 ∙ crossed_first n)) (more n)
  | inr apart ↦ elim (eqb_tells k (n + 1)) [
    | inl same ↦ subst (λ z. n ≤ z) (sym (crossed_second n k same.1)) (self n)
    | inr away ↦ subst (λ z. n ≤ z) (sym (crossed_other n k apart.1 away.1)) le
  ]
]
  where
    more : (n : ℕ) → n ≤ n + 1
    more n = omega arith

    self : (n : ℕ) → n ≤ n
    self n = omega arith
