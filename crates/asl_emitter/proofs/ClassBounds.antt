-- The class of a lock expression is one of those that there are, so a lock that becomes its class is still there.
use Rattle.std.proofs.Common.{◌≡◌, ℕ, suc, ◌+◌, ◌<◌, ◌++◌, List, [], ◌∷◌, zero, Option, Some, None, length, map, slice_get, refl, ap, ◌∙◌, subst, inl, inr, arith}
use Rattle.std.specs.Prelude.{All, option_and_then}
use Rattle.std.proofs.lemmas.Option.{slice_get_within, get_or_from_slice_get}
use Rattle.asl_code.specs.declared.lock.Base.{Base}
use Rattle.asl_code.specs.declared.lock.Base.TheVariants.{Reg, Global}
use Rattle.asl_code.specs.declared.lock.Lock.{Lock}
use Rattle.asl_code.specs.declared.lock.Lock.TheVariants as lock
use Rattle.asl_code.specs.declared.path.Op.{Op}
use Rattle.asl_code.specs.declared.path.Op.TheVariants.{Deref, Off}
use Rattle.asl_lower.specs.Lowered.{Lowered}
use Rattle.asl_points_to.specs.Classes.{Classed, AreClasses}
use Rattle.asl_points_to.proofs.CountedClasses.{member_below, register_below, cell_below}
use Rattle.asl_lock_expr.specs.ClassOf.{class_of, base_class, path_class, step_class}
use Rattle.asl_lock_expr.specs.Links.{IsOne, class_lock}
use Rattle.asl_emitter.specs.Lists.{as_class}
use Rattle.asl_emitter.proofs.There.{IsLockIn}

-- what stands in the first of two joined lists, in the second, and in a list of results
pub get_front : {X : Type 0} (xs ys : List X) (n : ℕ) (x : X) → slice_get xs n ≡ Some x → slice_get (xs ++ ys) n ≡ Some x
get_front [] ys n x e = cc
get_front (y ∷ xs) ys zero x e = e
get_front (y ∷ xs) ys (suc n) x e = get_front xs ys n x e

pub get_after : {X : Type 0} (xs ys : List X) (n : ℕ) (x : X) → slice_get ys n ≡ Some x → slice_get (xs ++ ys) (length xs + n) ≡ Some x
get_after [] ys n x e = let same : 0 + n ≡ n = omega arith in ap (slice_get ys) same ∙ e
get_after (y ∷ xs) ys n x e = let same : suc (length xs) + n ≡ suc (length xs + n) = omega arith in ap (slice_get (y ∷ (xs ++ ys))) same ∙ get_after xs ys n x e

pub get_mapped : {X Y : Type 0} (f : X → Y) (xs : List X) (n : ℕ) (y : Y) → slice_get (map f xs) n ≡ Some y → (x : X) × (slice_get xs n ≡ Some x) × (f x ≡ y)
get_mapped f [] n y e = cc
get_mapped f (x ∷ xs) zero y e = (x, refl, cc)
get_mapped f (x ∷ xs) (suc n) y e = get_mapped f xs n y e

pub length_mapped : {X Y : Type 0} (f : X → Y) (xs : List X) → length (map f xs) ≡ length xs
length_mapped f [] = refl
length_mapped f (x ∷ xs) = ap suc (length_mapped f xs)

-- where the list reaches, something stands
pub get_below : {X : Type 0} (xs : List X) (n : ℕ) → n < length xs → (x : X) × (slice_get xs n ≡ Some x)
get_below [] n lt = absurd (omega (arith, lt))
get_below (x ∷ xs) zero lt = (x, refl)
get_below (x ∷ xs) (suc n) lt = get_below xs n (omega (arith, lt))

-- what holds of each of a list
pub all_at : {X : Type 0} (P : X → Type 0) (xs : List X) (n : ℕ) (x : X) → All P xs → slice_get xs n ≡ Some x → P x
all_at P xs n x all e = subst P (get_or_from_slice_get xs n x x e) (all n x (slice_get_within xs n x e))

-- the class of an expression is one of those that there are
path_below : (l : Lowered) (c : Classed) → AreClasses l c → (ops : List Op) (start : Option ℕ) (x : ℕ) → ((y : ℕ) → start ≡ Some y → y < c.count) → path_class c ops start ≡ Some x → x < c.count
path_below l c are [] start x below e = below x e
path_below l c are (op ∷ ops) start x below e = path_below l c are ops (option_and_then (step_class c op) start) x (λ y h. step op start y below h) e
  where
    step : (op : Op) (start : Option ℕ) (y : ℕ) → ((z : ℕ) → start ≡ Some z → z < c.count) → option_and_then (step_class c op) start ≡ Some y → y < c.count
    step op None y below h = cc
    step Deref (Some z) y below h = cell_below l c are z y h
    step (Off n) (Some z) y below h = below y h

base_below : (l : Lowered) (c : Classed) → AreClasses l c → (f : ℕ) (b : Base) (x : ℕ) → base_class c f b ≡ Some x → x < c.count
base_below l c are f (Reg r) x e = register_below l c are f r x e
base_below l c are f (Global g) x e = member_below l c are g x (get_front c.globals c.sites g x e)

class_below : (l : Lowered) (c : Classed) → AreClasses l c → (f : ℕ) (b : Base) (path : List Op) (x : ℕ) → path_class c path (base_class c f b) ≡ Some x → x < c.count
class_below l c are f b path x e = path_below l c are path (base_class c f b) x (λ y h. base_below l c are f b y h) e

-- so a lock that becomes its class is still there
pub as_class_in : (l : Lowered) (c : Classed) → AreClasses l c → (f regs : ℕ) (a b : Lock) → IsLockIn c regs a → IsOne (as_class c f a) b → IsLockIn c regs b
as_class_in l c are f regs (lock.Root e) b h o = elim o [ inl s ↦ subst (IsLockIn c regs) s h | inr z ↦ absurd z ]
as_class_in l c are f regs (lock.Class x e) b h o = elim o [ inl s ↦ subst (IsLockIn c regs) s h | inr z ↦ absurd z ]
as_class_in l c are f regs (lock.Expr d e) b h o =
    elim (class_of c f d) as (λ k. class_of c f d ≡ k → IsOne (class_lock e k) b → IsLockIn c regs b) [
      | None ↦ λ k z. absurd z
      | Some x ↦ λ k p. elim p [ inl s ↦ subst (IsLockIn c regs) s (class_below l c are f d.base d.path x k) | inr z ↦ absurd z ]
    ] refl o
