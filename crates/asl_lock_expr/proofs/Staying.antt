-- Locks that stay as they are.
use Rattle.std.proofs.Common.{◌≡◌, ℕ, ◌<◌, ◌||◌, ◌&&◌, ◌++◌, Bool, true, false, cond, List, [], ◌∷◌, Option, Some, None, length, refl, sym, ap, ◌∙◌, arith}
use Rattle.std.specs.Prelude.{option_and_then}
use Rattle.std.specs.List.{flat_map}
use Rattle.asl_code.specs.declared.value.Effect.{Effect}
use Rattle.asl_code.specs.declared.instr.Instr.{Instr}
use Rattle.asl_code.specs.declared.instr.Instr.TheVariants as instr
use Rattle.asl_code.specs.declared.lock.Base.TheVariants.{Reg, Global}
use Rattle.asl_code.specs.declared.lock.Expr.{Expr}
use Rattle.asl_code.specs.declared.lock.Lock.{Lock}
use Rattle.asl_code.specs.declared.lock.Lock.TheVariants as lock
use Rattle.asl_code.specs.declared.path.Op.{Op}
use Rattle.asl_code.specs.declared.path.Op.TheVariants.{Deref, Off}
use Rattle.asl_points_to.specs.Classes.{Classed}
use Rattle.asl_lock_expr.specs.ClassOf.{step_class}
use Rattle.asl_lock_expr.specs.Links.{LinkContext, IsSettled, on, settle, settled, is_star, is_class, is_stored_to, is_register, hits, replaced, before, link}
use Rattle.asl_lock_expr.specs.Meeting.{meets}

settled_stays : (v : LinkContext) (e : Expr) (effect : Effect) → IsSettled v (lock.Expr e effect) → settle v (lock.Expr e effect) ≡ lock.Expr e effect ∷ []
settled_stays v e effect h =
    ap (settled v e effect) h.1.1 ∙ ap (λ t. cond t (lock.Expr e effect) (lock.Class h.1.0 effect) ∷ []) h.0

-- a settled expression that is left as it is stays
pub link_stays : (v : LinkContext) (i : Instr) (e : Expr) (effect : Effect) → IsSettled v (lock.Expr e effect) → before v i e effect ≡ lock.Expr e effect ∷ []
    → link v i (lock.Expr e effect) ≡ lock.Expr e effect ∷ []
link_stays v i e effect is same = ap (flat_map (settle v)) same ∙ ap (λ l. l ++ []) (settled_stays v e effect is)

neither : (a b : Bool) → (a || b) ≡ false → (a ≡ false) × (b ≡ false)
neither true b e = cc
neither false b e = (refl, e)

-- to be stored to is to be the class that is stored to
pub stored_class : (hit class : Option ℕ) → is_stored_to (λ stored. is_class (Some stored) hit) class ≡ is_class class hit
stored_class hit None = refl
stored_class hit (Some class) = refl

no_hits : (c : Classed) (hit : Option ℕ) (b : ℕ) (effect : Effect) (class : Option ℕ) (ops : List Op) → meets c hit class ops ≡ false → hits c hit b effect class ops ≡ []
no_hits c hit b effect class [] e = refl
no_hits c hit b effect class (op ∷ ops) e =
    let next : Option ℕ = option_and_then (step_class c op) class in
    let both = neither (is_star op && is_stored_to (λ stored. is_class (Some stored) hit) class) (meets c hit next ops) e in
    let none : (is_star op && is_class class hit) ≡ false = ap (λ (t : Bool). is_star op && t) (sym (stored_class hit class)) ∙ both.0 in
    ap (λ t. cond t (on (Reg b) ops effect ∷ []) [] ++ hits c hit b effect next ops) none ∙ no_hits c hit b effect next ops both.1

-- an expression that a store neither replaces nor meets is left as it is
pub store_past : (c : Classed) (hit : Option ℕ) (b : ℕ) (e : Expr) (effect : Effect) (class : Option ℕ) (over : Bool) → (over || meets c hit class e.path) ≡ false
    → cond over [] (lock.Expr e effect ∷ []) ++ hits c hit b effect class e.path ≡ lock.Expr e effect ∷ []
store_past c hit b e effect class over h =
    let both = neither over (meets c hit class e.path) h in
    ap (λ t. cond t [] (lock.Expr e effect ∷ []) ++ hits c hit b effect class e.path) both.0 ∙ ap (λ l. lock.Expr e effect ∷ l) (no_hits c hit b effect class e.path both.1)

-- what a lock becomes, before that is settled
abbrev before_lock : LinkContext → Instr → Lock → List Lock
before_lock v i (lock.Expr e effect) = before v i e effect
before_lock v i l = l ∷ []

pub same_before : (v : LinkContext) (i : Instr) (l : Lock) (e f : Expr) (effect other : Effect) → l ≡ lock.Expr e effect → l ≡ lock.Expr f other → before v i e effect ≡ l ∷ [] → before v i f other ≡ lock.Expr f other ∷ []
same_before v i l e f effect other p q s =
    ap (before_lock v i) (sym q) ∙ ap (before_lock v i) p ∙ s ∙ ap (λ (m : Lock). m ∷ []) q

-- the register that an instruction sets from what the expression on it does not begin with
abbrev pub set_by : Instr → Option ℕ
set_by (instr.GlobalAddress a g) = Some a
set_by (instr.FieldAddress a b d) = Some a
set_by (instr.Load a b) = Some a
set_by (instr.SetInt a n) = Some a
set_by (instr.SetNull a) = Some a
set_by (instr.Add a x y) = Some a
set_by (instr.Subtract a x y) = Some a
set_by (instr.LessThan a x y) = Some a
set_by (instr.Equals a x y) = Some a
set_by (instr.New a n s) = Some a
set_by i = None

changed : (a b : ℕ) (e : Expr) (effect : Effect) (ls : List Lock) → Some a ≡ Some b → is_register b e.base ≡ true → replaced a e effect ls ≡ lock.Expr e effect ∷ [] → ls ≡ lock.Expr e effect ∷ []
changed a b e effect ls s r h =
    let same : a ≡ b = cc in
    let here : is_register a e.base ≡ true = ap (λ (n : ℕ). is_register n e.base) same ∙ r in
    sym (ap (λ t. cond t ls (lock.Expr e effect ∷ [])) here) ∙ h

not_global : (a g : ℕ) (e : Expr) (effect : Effect) → is_register a e.base ≡ true → on (Global g) e.path effect ∷ [] ≡ lock.Expr e effect ∷ [] → ⊥
not_global a g e effect r h =
    let base : Global g ≡ e.base = cc in
    let none : false ≡ true = ap (is_register a) base ∙ r in
    cc

longer : (op : Op) (ops : List Op) → op ∷ ops ≡ ops → ⊥
longer op ops h = omega (arith, ap length h)

not_longer : (b : ℕ) (op : Op) (e : Expr) (effect : Effect) → on (Reg b) (op ∷ e.path) effect ∷ [] ≡ lock.Expr e effect ∷ [] → ⊥
not_longer b op e effect h = longer op e.path cc

-- an expression on the register that is set does not stay
pub set_changes : (v : LinkContext) (i : Instr) (e : Expr) (effect : Effect) (a : ℕ) → set_by i ≡ Some a → is_register a e.base ≡ true → before v i e effect ≡ lock.Expr e effect ∷ [] → ⊥
set_changes v (instr.GlobalAddress x g) e effect a s r h =
    not_global a g e effect r (changed x a e effect (on (Global g) e.path effect ∷ []) s r h)
set_changes v (instr.FieldAddress x b d) e effect a s r h =
    not_longer b (Off d) e effect (changed x a e effect (on (Reg b) (Off d ∷ e.path) effect ∷ []) s r h)
set_changes v (instr.Load x b) e effect a s r h =
    not_longer b Deref e effect (changed x a e effect (on (Reg b) (Deref ∷ e.path) effect ∷ []) s r h)
set_changes v (instr.SetInt x n) e effect a s r h = let g = changed x a e effect [] s r h in cc
set_changes v (instr.SetNull x) e effect a s r h = let g = changed x a e effect [] s r h in cc
set_changes v (instr.Add x y z) e effect a s r h = let g = changed x a e effect [] s r h in cc
set_changes v (instr.Subtract x y z) e effect a s r h = let g = changed x a e effect [] s r h in cc
set_changes v (instr.LessThan x y z) e effect a s r h = let g = changed x a e effect [] s r h in cc
set_changes v (instr.Equals x y z) e effect a s r h = let g = changed x a e effect [] s r h in cc
set_changes v (instr.New x n y) e effect a s r h = let g = changed x a e effect [] s r h in cc
set_changes v i e effect a s r h = cc

-- what is met is shorter
hit_shorter : (c : Classed) (hit : Option ℕ) (b : ℕ) (effect : Effect) (class : Option ℕ) (ops : List Op) (e : Expr) (more : List Lock) → hits c hit b effect class ops ≡ lock.Expr e effect ∷ more → length e.path < length ops
hit_shorter c hit b effect class [] e more h = cc
hit_shorter c hit b effect class (op ∷ ops) e more h =
    by_hit (is_star op && is_class class hit) (hits c hit b effect (option_and_then (step_class c op) class) ops) (hit_shorter c hit b effect (option_and_then (step_class c op) class) ops e more) h
  where
    by_hit : (t : Bool) (ls : List Lock) → (ls ≡ lock.Expr e effect ∷ more → length e.path < length ops) → cond t (on (Reg b) ops effect ∷ []) [] ++ ls ≡ lock.Expr e effect ∷ more → length e.path < length (op ∷ ops)
    by_hit true ls go h =
        let path : ops ≡ e.path = cc in
        omega (arith, ap length path)
    by_hit false ls go h = omega (arith, go h)

unmet : (c : Classed) (hit : Option ℕ) (b : ℕ) (effect : Effect) (class : Option ℕ) (ops : List Op) → hits c hit b effect class ops ≡ [] → meets c hit class ops ≡ false
unmet c hit b effect class [] h = refl
unmet c hit b effect class (op ∷ ops) h =
    ap (λ (t : Bool). (is_star op && t) || meets c hit (option_and_then (step_class c op) class) ops) (stored_class hit class)
    ∙ by_hit (is_star op && is_class class hit) (hits c hit b effect (option_and_then (step_class c op) class) ops) (meets c hit (option_and_then (step_class c op) class) ops) (unmet c hit b effect (option_and_then (step_class c op) class) ops) h
  where
    by_hit : (t : Bool) (ls : List Lock) (m : Bool) → (ls ≡ [] → m ≡ false) → cond t (on (Reg b) ops effect ∷ []) [] ++ ls ≡ [] → (t || m) ≡ false
    by_hit true ls m go h = cc
    by_hit false ls m go h = go h

-- an expression that a store leaves as it is, and alone, is neither replaced nor met
pub store_left : (c : Classed) (hit : Option ℕ) (b : ℕ) (e : Expr) (effect : Effect) (class : Option ℕ) (over : Bool) → cond over [] (lock.Expr e effect ∷ []) ++ hits c hit b effect class e.path ≡ lock.Expr e effect ∷ [] → (over || meets c hit class e.path) ≡ false
store_left c hit b e effect class true h = absurd (omega (arith, hit_shorter c hit b effect class e.path e [] h))
store_left c hit b e effect class false h =
    let none : hits c hit b effect class e.path ≡ [] = cc in
    unmet c hit b effect class e.path none
