-- Locks that no touch of an instruction concerns stay as they are, and their dereferenced prefixes too.
use Rattle.std.proofs.Common.{◌≡◌, ◌≤◌, ℕ, ◌||◌, ◌&&◌, ◌++◌, Bool, true, false, cond, List, [], ◌∷◌, Option, Some, None, length, refl, sym, ap, ap₂, ◌∙◌, subst, inl, inr, arith, length-append}
use Rattle.asl_code.specs.declared.value.Effect.{Effect}
use Rattle.asl_code.specs.declared.instr.Instr.{Instr}
use Rattle.asl_code.specs.declared.instr.Instr.TheVariants as instr
use Rattle.asl_code.specs.declared.lock.Expr.{Expr}
use Rattle.asl_code.specs.declared.lock.Lock.{Lock}
use Rattle.asl_code.specs.declared.lock.Lock.TheVariants as lock
use Rattle.asl_code.specs.declared.path.Op.{Op}
use Rattle.asl_code.specs.declared.path.Op.TheVariants.{Deref}
use Rattle.asl_points_to.specs.Classes.{to}
use Rattle.asl_lock_expr.specs.declared.touch.Touch.{Touch}
use Rattle.asl_lock_expr.specs.declared.touch.Touch.TheVariants as touch
use Rattle.asl_lock_expr.specs.ClassOf.{base_class, path_class}
use Rattle.asl_lock_expr.specs.Links.{LinkContext, IsOne, IsSettled, is_class, is_register, begins_with_star, goes_through, replaced, before, link, dereferenced, class_lock}
use Rattle.asl_lock_expr.specs.Touches.{set_by, stored_by, is_concerned, IsClear, Stays}
use Rattle.asl_lock_expr.proofs.Staying.{link_stays, store_past}
use Rattle.asl_lock_expr.proofs.Leaves.{or_first, or_second, prefix_is, front_past, front_class, shorter}

kept : (a : ℕ) (e : Expr) (effect : Effect) (ls : List Lock) → is_register a e.base ≡ false → replaced a e effect ls ≡ lock.Expr e effect ∷ []
kept a e effect ls none = ap (λ c. cond c ls (lock.Expr e effect ∷ [])) none

-- what an expression that is not touched becomes
untouched : (v : LinkContext) (i : Instr) (e : Expr) (effect : Effect) → is_concerned v (set_by i) e ≡ false → is_concerned v (stored_by i) e ≡ false → before v i e effect ≡ lock.Expr e effect ∷ []
untouched v (instr.Move a b) e effect s t = kept a e effect _ s
untouched v (instr.GlobalAddress a g) e effect s t = kept a e effect _ s
untouched v (instr.FieldAddress a b d) e effect s t = kept a e effect _ s
untouched v (instr.Load a b) e effect s t = kept a e effect _ s
untouched v (instr.SetInt a n) e effect s t = kept a e effect _ s
untouched v (instr.SetNull a) e effect s t = kept a e effect _ s
untouched v (instr.Add a x y) e effect s t = kept a e effect _ s
untouched v (instr.Subtract a x y) e effect s t = kept a e effect _ s
untouched v (instr.LessThan a x y) e effect s t = kept a e effect _ s
untouched v (instr.Equals a x y) e effect s t = kept a e effect _ s
untouched v (instr.New a n x) e effect s t = kept a e effect _ s
untouched v (instr.Store a b) e effect s t =
    store_past v.classes (to v.classes v.function a) b e effect (base_class v.classes v.function e.base) (is_register a e.base && begins_with_star e.path) t
untouched v (instr.Call a b g) e effect s t =
    ap (λ c. cond c (class_lock effect (path_class v.classes e.path (base_class v.classes v.function e.base))) (lock.Expr e effect ∷ [])) (ap₂ (λ x y. x || y) s t)
untouched v i e effect s t = refl

alone : (v : LinkContext) (i : Instr) (m : Lock) → IsClear v (set_by i) m → IsClear v (stored_by i) m → link v i m ≡ m ∷ []
alone v i (lock.Root effect) s t = refl
alone v i (lock.Class class effect) s t = refl
alone v i (lock.Expr e effect) s t = link_stays v i e effect s.0 (untouched v i e effect s.1 t.1)

front_star : (p rest : List Op) (b : Bool) → (b && begins_with_star (p ++ rest)) ≡ false → (b && begins_with_star p) ≡ false
front_star [] rest true e = refl
front_star [] rest false e = refl
front_star (op ∷ p) rest b e = e

front_concerned : (v : LinkContext) (t : Touch) (e : Expr) (p rest : List Op) → e.path ≡ p ++ rest → is_concerned v t e ≡ false → is_concerned v t (record { base = e.base; path = p }) ≡ false
front_concerned v touch.Nothing e p rest is c = refl
front_concerned v (touch.Register a) e p rest is c = c
front_concerned v (touch.Store a) e p rest is c =
    let hit : ℕ → Bool = λ stored. is_class (Some stored) (to v.classes v.function a) in
    let class : Option ℕ = base_class v.classes v.function e.base in
    let whole : ((is_register a e.base && begins_with_star (p ++ rest)) || goes_through v.classes hit class (p ++ rest)) ≡ false =
    ap (λ (ops : List Op). (is_register a e.base && begins_with_star ops) || goes_through v.classes hit class ops) (sym is) ∙ c in
    ap₂ (λ x y. x || y)
    (front_star p rest (is_register a e.base) (or_first (is_register a e.base && begins_with_star (p ++ rest)) _ whole))
    (front_past v.classes hit class p rest (or_second (is_register a e.base && begins_with_star (p ++ rest)) _ whole))
front_concerned v (touch.Call g) e p rest is c =
    front_past v.classes (v.stores g) (base_class v.classes v.function e.base) p rest (ap (goes_through v.classes (v.stores g) (base_class v.classes v.function e.base)) (sym is) ∙ c)

-- a dereferenced prefix of a lock that is not concerned is not either
front_clear : (v : LinkContext) (t : Touch) (m d : Lock) → IsClear v t m → IsOne (dereferenced m) d → IsClear v t d
front_clear v t (lock.Root effect) d c o = absurd o
front_clear v t (lock.Class class effect) d c o = absurd o
front_clear v t (lock.Expr e effect) (lock.Root other) c o = tt
front_clear v t (lock.Expr e effect) (lock.Class class other) c o = tt
front_clear v t (lock.Expr e effect) (lock.Expr k other) c o =
    let f = prefix_is e.base [] e.path k other o in
    let class = front_class v.classes f.0 (Deref ∷ f.1) (base_class v.classes v.function e.base) c.0.1.0 (ap (λ ops. path_class v.classes ops (base_class v.classes v.function e.base)) (sym f.4) ∙ c.0.1.1) in
    let len : length f.0 ≤ length e.path = (let s = ap length f.4 ∙ length-append f.0 (Deref ∷ f.1) in omega (arith, s)) in
    subst (λ (y : Expr). IsSettled v (lock.Expr y other) × (is_concerned v t y ≡ false)) (sym f.3)
    ((shorter (length f.0) (length e.path) v.k_limit len c.0.0, (class.0, class.1)), front_concerned v t e f.0 (Deref ∷ f.1) f.4 c.1)

pub clear_stays : (v : LinkContext) (i : Instr) (m : Lock) → IsClear v (set_by i) m → IsClear v (stored_by i) m → Stays v i m
clear_stays v i m s t =
    let here = alone v i m s t in
    record {
      itself = λ n o. only (subst (λ (ls : List Lock). IsOne ls n) here o);
      there = subst (λ (ls : List Lock). IsOne ls m) (sym here) (inl refl);
      fronts = λ d o. subst (λ (ls : List Lock). IsOne ls d) (sym (alone v i d (front_clear v (set_by i) m d s o) (front_clear v (stored_by i) m d t o))) (inl refl);
    }
  where
    only : {n : Lock} → IsOne (m ∷ []) n → m ≡ n
    only (inl e) = e
    only (inr o) = absurd o
