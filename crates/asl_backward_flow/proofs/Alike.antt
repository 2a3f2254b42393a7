-- What is needed depends on the written classes, and not on the test that tells them.
use Rattle.std.proofs.Common.{◌≡◌, IsTrue, ℕ, Bool, true, false, ◌&&◌, ◌||◌, ◌++◌, cond, List, [], ◌∷◌, Option, Some, None, refl, ap, ap₂, ◌∙◌, subst}
use Rattle.std.specs.Prelude.{option_and_then}
use Rattle.std.specs.List.{flat_map}
use Rattle.asl_code.specs.declared.instr.Instr.{Instr}
use Rattle.asl_code.specs.declared.instr.Instr.TheVariants as instr
use Rattle.asl_code.specs.declared.value.Effect.{Effect}
use Rattle.asl_code.specs.declared.value.Effect.TheVariants.{Read, Write}
use Rattle.asl_code.specs.declared.lock.Base.TheVariants.{Reg}
use Rattle.asl_code.specs.declared.lock.Expr.{Expr}
use Rattle.asl_code.specs.declared.lock.Lock.{Lock}
use Rattle.asl_code.specs.declared.lock.Lock.TheVariants as lock
use Rattle.asl_code.specs.declared.path.Op.{Op}
use Rattle.asl_lower.specs.Lowered.{Lowered}
use Rattle.asl_lower.specs.Regions.{Region, Body}
use Rattle.asl_points_to.specs.Classes.{Classed}
use Rattle.asl_lock_expr.specs.ClassOf.{base_class, step_class, class_of, TellsStores}
use Rattle.asl_lock_expr.specs.Links.{view, IsOne, on, class_lock, settled, settle, is_register, is_star, is_stored_to, goes_through, before, link, accesses}
use Rattle.asl_backward_flow.specs.Needed.{Needed, Accessed, Linked, Entered, Before}

both_true : (a b : Bool) → (IsTrue a → IsTrue b) → (IsTrue b → IsTrue a) → a ≡ b
both_true true true there back = refl
both_true true false there back = let f : false ≡ true = there refl in cc
both_true false true there back = let f : false ≡ true = back refl in cc
both_true false false there back = refl

pub tests_same : (l : Lowered) (c : Classed) (s t : ℕ → ℕ → Bool) → TellsStores l c s → TellsStores l c t → (f x : ℕ) → s f x ≡ t f x
tests_same l c s t told tells f x = both_true (s f x) (t f x) (λ h. (tells f x).1 ((told f x).0 h)) (λ h. (told f x).1 ((tells f x).0 h))

module _ (c : Classed) (k_limit : ℕ) (s t : ℕ → ℕ → Bool) (same : (g x : ℕ) → s g x ≡ t g x) (f : ℕ) where
  stored_same : (g : ℕ) (o : Option ℕ) → is_stored_to (s g) o ≡ is_stored_to (t g) o
  stored_same g None = refl
  stored_same g (Some x) = same g x

  through_same : (g : ℕ) (o : Option ℕ) (ops : List Op) → goes_through c (s g) o ops ≡ goes_through c (t g) o ops
  through_same g o [] = refl
  through_same g o (op ∷ ops) = ap₂ (λ a b. (is_star op && a) || b) (stored_same g o) (through_same g (option_and_then (step_class c op) o) ops)

  before_same : (i : Instr) (e : Expr) (effect : Effect) → before (view c s k_limit f) i e effect ≡ before (view c t k_limit f) i e effect
  before_same (instr.Call a b g) e effect =
      ap (λ x. cond (is_register a e.base || x) (class_lock effect (class_of c f e)) (lock.Expr e effect ∷ [])) (through_same g (base_class c f e.base) e.path)
  before_same i e effect = refl

  settled_same : (e : Expr) (effect : Effect) (o : Option ℕ) → settled (view c s k_limit f) e effect o ≡ settled (view c t k_limit f) e effect o
  settled_same e effect None = refl
  settled_same e effect (Some x) = refl

  pub settle_same : (m : Lock) → settle (view c s k_limit f) m ≡ settle (view c t k_limit f) m
  settle_same (lock.Root effect) = refl
  settle_same (lock.Class x effect) = refl
  settle_same (lock.Expr e effect) = settled_same e effect (class_of c f e)

  all_same : (ms : List Lock) → flat_map (settle (view c s k_limit f)) ms ≡ flat_map (settle (view c t k_limit f)) ms
  all_same [] = refl
  all_same (m ∷ ms) = ap₂ (λ a b. a ++ b) (settle_same m) (all_same ms)

  pub link_same : (i : Instr) (m : Lock) → link (view c s k_limit f) i m ≡ link (view c t k_limit f) i m
  link_same i (lock.Root effect) = refl
  link_same i (lock.Class x effect) = refl
  link_same i (lock.Expr e effect) = all_same (before (view c s k_limit f) i e effect) ∙ ap (flat_map (settle (view c t k_limit f))) (before_same i e effect)

  pub accesses_same : (i : Instr) → accesses (view c s k_limit f) i ≡ accesses (view c t k_limit f) i
  accesses_same (instr.Load a b) = settle_same (on (Reg b) [] Read)
  accesses_same (instr.Store a b) = settle_same (on (Reg a) [] Write)
  accesses_same i = refl

module _ (l : Lowered) (c : Classed) (k_limit : ℕ) (s t : ℕ → ℕ → Bool) (same : (g x : ℕ) → s g x ≡ t g x) where
  pub needed_same : (r : Region) (pc : ℕ) (n : Lock) → Needed l c s k_limit r pc n → Needed l c t k_limit r pc n
  needed_same _ _ _ (Accessed r f pc i n isin at o) = Accessed r f pc i n isin at (subst (λ ms. IsOne ms n) (accesses_same c k_limit s t same f i) o)
  needed_same _ _ _ (Linked r f pc next i m n isin at goes k o) =
      Linked r f pc next i m n isin at goes (needed_same r next m k) (subst (λ ms. IsOne ms n) (link_same c k_limit s t same f i m) o)
  needed_same _ _ _ (Entered r f pc to first g callee m p n isin at there k o q) =
      Entered r f pc to first g callee m p n isin at there (needed_same (Body g) _ m k) o (subst (λ ms. IsOne ms n) (settle_same c k_limit s t same f p) q)
  needed_same _ _ _ (Before r pc m n k o) = Before r pc m n (needed_same r pc m k) o
