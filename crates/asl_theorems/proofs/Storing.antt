-- A test that tells to which classes each function may store cannot be missing.
use Rattle.std.proofs.Common.{◌≡◌, ◌⊎◌, ◌↔◌, ◌<◌, ◌≤◌, ℕ, Bool, true, false, Some, length, refl, inl, inr, arith}
use Rattle.std.specs.Prelude.{IsTrue}
use Rattle.std.proofs.lemmas.Option.{slice_get_within}
use Rattle.asl_lower.specs.Lowered.{Lowered}
use Rattle.asl_points_to.specs.Classes.{Classed, to}
use Rattle.asl_lock_expr.specs.ClassOf.{MayStore, Itself, ByCall, TellsStores}
use Rattle.asl_theorems.proofs.Surely.{Surely, mapped, either, each_below}

module _ (l : Lowered) (c : Classed) (low : (f r x : ℕ) → to c f r ≡ Some x → x < c.count) where
  -- who may store is a function that is there, to a class that is there
  within : (f x : ℕ) → MayStore l c f x → (f < length l.functions) × (x < c.count)
  within _ _ (Itself f pc address from x b at points) = (slice_get_within l.functions f b.function b.in_table, low f address x points)
  within _ _ (ByCall f pc callee x b calls may) = (slice_get_within l.functions f b.function b.in_table, (within callee x may).1)

  abbrev Told : Type 0
  Told = (f : ℕ) → f < length l.functions → (x : ℕ) → x < c.count → MayStore l c f x ⊎ (MayStore l c f x → ⊥)

  below_or : (m n : ℕ) → (m < n) ⊎ (n ≤ m)
  below_or m n = grind arith

  yes_or : {P : Type 0} → P ⊎ (P → ⊥) → Bool
  yes_or (inl p) = true
  yes_or (inr n) = false

  in_class : Told → (f : ℕ) → f < length l.functions → (x : ℕ) → (x < c.count) ⊎ (c.count ≤ x) → Bool
  in_class told f lt x (inl less) = yes_or (told f lt x less)
  in_class told f lt x (inr more) = false

  in_function : Told → (f : ℕ) → (f < length l.functions) ⊎ (length l.functions ≤ f) → ℕ → Bool
  in_function told f (inl lt) x = in_class told f lt x (below_or x c.count)
  in_function told f (inr ge) x = false

  yes_told : {P : Type 0} → (d : P ⊎ (P → ⊥)) → IsTrue (yes_or d) ↔ P
  unfolding yes_or
  yes_told (inl p) = (λ t. p, λ q. refl)
  yes_told (inr n) = (λ t. absurd (cc), λ p. absurd (n p))

  class_told : (told : Told) (f : ℕ) (lt : f < length l.functions) (x : ℕ) (b : (x < c.count) ⊎ (c.count ≤ x)) → IsTrue (in_class told f lt x b) ↔ MayStore l c f x
  unfolding in_class
  class_told told f lt x (inl less) = yes_told (told f lt x less)
  class_told told f lt x (inr more) = (λ t. absurd (cc), λ may. (let is = (within f x may).1 in absurd (omega (arith, is, more))))

  function_told : (told : Told) (f : ℕ) (b : (f < length l.functions) ⊎ (length l.functions ≤ f)) (x : ℕ) → IsTrue (in_function told f b x) ↔ MayStore l c f x
  unfolding in_function
  function_told told f (inl lt) x = class_told told f lt x (below_or x c.count)
  function_told told f (inr ge) x = (λ t. absurd (cc), λ may. (let is = (within f x may).0 in absurd (omega (arith, is, ge))))

  pub surely_stores : Surely ((stores : ℕ → ℕ → Bool) × TellsStores l c stores)
  surely_stores =
      mapped (each_below (λ f. (x : ℕ) → x < c.count → MayStore l c f x ⊎ (MayStore l c f x → ⊥)) (length l.functions)
      (λ f lt. each_below (λ x. MayStore l c f x ⊎ (MayStore l c f x → ⊥)) c.count (λ x less. either (MayStore l c f x)))) (λ told.
      (λ f x. in_function told f (below_or f (length l.functions)) x, λ f x. function_told told f (below_or f (length l.functions)) x))
