-- Laws of links and of prefixes: what settles, what a call leaves, and which paths a store elsewhere leaves alone.
use Rattle.std.proofs.Common.{◌≡◌, ◌≢◌, ℕ, ◌≤◌, ◌||◌, ◌&&◌, ◌++◌, Bool, true, false, cond, List, [], ◌∷◌, Option, Some, None, length, refl, ap, ap₂, sym, ◌∙◌, subst, inl, inr, arith, rules, append_assoc, length-append}
use Rattle.std.specs.Prelude.{option_and_then, nat_le}
use Rattle.std.specs.List.{flat_map}
use Rattle.std.proofs.lemmas.List.{append-nil}
use Rattle.asl_code.specs.declared.value.Value.{Value}
use Rattle.asl_code.specs.declared.value.Cell.{Cell}
use Rattle.asl_code.specs.declared.value.Effect.{Effect}
use Rattle.asl_code.specs.declared.value.Effect.TheVariants.{Read}
use Rattle.asl_code.specs.declared.instr.Instr.{Instr}
use Rattle.asl_code.specs.declared.instr.Instr.TheVariants as instr
use Rattle.asl_code.specs.declared.lock.Base.{Base}
use Rattle.asl_code.specs.declared.lock.Expr.{Expr}
use Rattle.asl_code.specs.declared.lock.Lock.{Lock}
use Rattle.asl_code.specs.declared.lock.Lock.TheVariants as lock
use Rattle.asl_code.specs.declared.path.Op.{Op}
use Rattle.asl_code.specs.declared.path.Op.TheVariants.{Deref, Off}
use Rattle.asl_points_to.specs.Classes.{Classed}
use Rattle.asl_expression.specs.Expression.{Seen, base_cell, moved, walked, path_cell, cell_denoted}
use Rattle.asl_lock_expr.specs.ClassOf.{base_class, step_class, path_class, class_of}
use Rattle.asl_lock_expr.specs.Links.{LinkContext, IsOne, class_lock, settled, settle, is_register, is_star, is_stored_to, goes_through, before, link, IsSettled, prefixes, dereferenced}
use Rattle.asl_lock_expr.specs.Agrees.{IsWrite}
use Rattle.asl_expression.proofs.Paths.{no_cell_from_none}
use Rattle.asl_lock_expr.proofs.Steps.{class_append}
use Rattle.asl_lock_expr.proofs.Ones.{one_either}
use Rattle.asl_expression.proofs.Paths.{path_append, moved_same}
use Rattle.asl_lock_expr.proofs.Walks.{walked_same}

-- the expressions that a call leaves: whose base is not its register, and which go through no class that it may store to
abbrev pub is_lost : LinkContext → ℕ → ℕ → Expr → Bool
is_lost v a g e = is_register a e.base || goes_through v.classes (v.stores g) (base_class v.classes v.function e.base) e.path

not_class : (v : LinkContext) (effect : Effect) (o : Option ℕ) (e : Expr) (other : Effect) → IsOne (flat_map (settle v) (class_lock effect o)) (lock.Expr e other) → ⊥
not_class v effect None e other o = o
not_class v effect (Some x) e other (inl is) = cc
not_class v effect (Some x) e other (inr o) = o

-- what settles to an expression is that expression, has a class and is short enough
pub settled_expr : (v : LinkContext) (d : Expr) (effect : Effect) (o : Option ℕ) (e : Expr) (other : Effect) → class_of v.classes v.function d ≡ o → IsOne (settled v d effect o ++ []) (lock.Expr e other) →
    (lock.Expr d effect ≡ lock.Expr e other) × ((x : ℕ) × (class_of v.classes v.function d ≡ Some x)) × (nat_le (length d.path) v.k_limit ≡ true)
settled_expr v d effect None e other is o = absurd o
settled_expr v d effect (Some x) e other is o =
    elim (nat_le (length d.path) v.k_limit) as (λ b. nat_le (length d.path) v.k_limit ≡ b → IsOne (cond b (lock.Expr d effect) (lock.Class x effect) ∷ []) (lock.Expr e other) →
    (lock.Expr d effect ≡ lock.Expr e other) × ((y : ℕ) × (class_of v.classes v.function d ≡ Some y)) × (nat_le (length d.path) v.k_limit ≡ true)) [
      | true ↦ λ short k. elim k [ inl same ↦ (same, (x, is), short) | inr f ↦ absurd f ]
      | false ↦ λ short k. elim k [ inl same ↦ (let f : lock.Class x effect ≡ lock.Expr e other = same in cc) | inr f ↦ absurd f ]
    ] refl o

-- an expression that is left over a call was there, and is not lost; it has a class and is short enough
pub call_leaves : (v : LinkContext) (a first g : ℕ) (m : Lock) (e : Expr) (effect : Effect) → IsOne (link v (instr.Call a first g) m) (lock.Expr e effect) →
    (m ≡ lock.Expr e effect) × (is_lost v a g e ≡ false) × ((x : ℕ) × (class_of v.classes v.function e ≡ Some x)) × (nat_le (length e.path) v.k_limit ≡ true)
call_leaves v a first g (lock.Root other) e effect (inl is) = cc
call_leaves v a first g (lock.Root other) e effect (inr o) = absurd o
call_leaves v a first g (lock.Class x other) e effect (inl is) = cc
call_leaves v a first g (lock.Class x other) e effect (inr o) = absurd o
call_leaves v a first g (lock.Expr d other) e effect o =
    elim (is_lost v a g d) as (λ b. is_lost v a g d ≡ b → IsOne (flat_map (settle v) (cond b (class_lock other (class_of v.classes v.function d)) (lock.Expr d other ∷ []))) (lock.Expr e effect) →
    (lock.Expr d other ≡ lock.Expr e effect) × (is_lost v a g e ≡ false) × ((x : ℕ) × (class_of v.classes v.function e ≡ Some x)) × (nat_le (length e.path) v.k_limit ≡ true)) [
      | true ↦ λ is k. absurd (not_class v other (class_of v.classes v.function d) e effect k)
      | false ↦ λ is k.
          let s = settled_expr v d other (class_of v.classes v.function d) e effect refl k in
          let same : d ≡ e = (let f = s.0 in cc) in
          (s.0, subst (λ (y : Expr). is_lost v a g y ≡ false) same is, subst (λ (y : Expr). (x : ℕ) × (class_of v.classes v.function y ≡ Some x)) same s.1, subst (λ (y : Expr). nat_le (length y.path) v.k_limit ≡ true) same s.2)
    ] refl o

-- and back
pub call_keeps : (v : LinkContext) (a first g : ℕ) (e : Expr) (effect : Effect) (x : ℕ) → is_lost v a g e ≡ false → class_of v.classes v.function e ≡ Some x → nat_le (length e.path) v.k_limit ≡ true →
    IsOne (link v (instr.Call a first g) (lock.Expr e effect)) (lock.Expr e effect)
call_keeps v a first g e effect x kept of short =
    subst (λ (b : Bool). IsOne (flat_map (settle v) (cond b (class_lock effect (class_of v.classes v.function e)) (lock.Expr e effect ∷ []))) (lock.Expr e effect)) (sym kept)
    (subst (λ o. IsOne (settled v e effect o ++ []) (lock.Expr e effect)) (sym of)
    (subst (λ (b : Bool). IsOne (cond b (lock.Expr e effect) (lock.Class x effect) ∷ []) (lock.Expr e effect)) (sym short) (inl refl)))

pub or_first : (a b : Bool) → (a || b) ≡ false → a ≡ false
or_first true b e = cc
or_first false b e = refl

pub or_second : (a b : Bool) → (a || b) ≡ false → b ≡ false
or_second true b e = cc
or_second false b e = e

-- a dereferenced prefix is a front of the path
pub prefix_is : (base : Base) (done ops : List Op) (k : Expr) (effect : Effect) → IsOne (prefixes base done ops) (lock.Expr k effect) →
    (p : List Op) × (rest : List Op) × (effect ≡ Read) × (k ≡ record { base = base; path = done ++ p }) × (ops ≡ p ++ Deref ∷ rest)
prefix_is base done [] k effect o = absurd o
prefix_is base done (Off places ∷ ops) k effect o =
    let r = prefix_is base (done ++ Off places ∷ []) ops k effect o in
    (Off places ∷ r.0, r.1, r.2, r.3 ∙ ap (λ (p : List Op). record { base = base; path = p }) (append_assoc done (Off places ∷ []) r.0), ap (λ (p : List Op). Off places ∷ p) r.4)
prefix_is base done (Deref ∷ ops) k effect (inl is) =
    let same : record { base = base; path = done } ≡ k = cc in
    let reads : Read ≡ effect = cc in
    ([], ops, sym reads, sym same ∙ ap (λ (p : List Op). record { base = base; path = p }) (sym (append-nil done)), refl)
prefix_is base done (Deref ∷ ops) k effect (inr o) =
    let r = prefix_is base (done ++ Deref ∷ []) ops k effect o in
    (Deref ∷ r.0, r.1, r.2, r.3 ∙ ap (λ (p : List Op). record { base = base; path = p }) (append_assoc done (Deref ∷ []) r.0), ap (λ (p : List Op). Deref ∷ p) r.4)

-- a front of a path that does not go through does not
pub front_past : (c : Classed) (stores : ℕ → Bool) (class : Option ℕ) (p rest : List Op) → goes_through c stores class (p ++ rest) ≡ false → goes_through c stores class p ≡ false
front_past c stores class [] rest e = refl
front_past c stores class (op ∷ p) rest e =
    ap₂ (λ x y. x || y) (or_first (is_star op && is_stored_to stores class) _ e) (front_past c stores (option_and_then (step_class c op) class) p rest (or_second (is_star op && is_stored_to stores class) _ e))

-- from no class no path leads to one
pub no_class : (c : Classed) (ops : List Op) → path_class c ops None ≡ None
no_class c [] = refl
no_class c (op ∷ ops) = no_class c ops

-- a front of a path that has a class has one
pub front_class : (c : Classed) (p rest : List Op) (start : Option ℕ) (x : ℕ) → path_class c (p ++ rest) start ≡ Some x → (y : ℕ) × (path_class c p start ≡ Some y)
front_class c p rest start x e =
    elim (path_class c p start) as (λ o. path_class c p start ≡ o → path_class c rest o ≡ Some x → (y : ℕ) × (path_class c p start ≡ Some y)) [
      | None ↦ λ is f. (let n = no_class c rest in cc)
      | Some y ↦ λ is f. (y, is)
    ] refl (sym (class_append c p rest start) ∙ e)

pub shorter : (m n k : ℕ) → m ≤ n → nat_le n k ≡ true → nat_le m k ≡ true
shorter m n k le e = search (rules, arith, le, e)

-- the dereferenced prefixes of what a call leaves are left too
pub prefix_left : (v : LinkContext) (a first g : ℕ) (m : Lock) (e k : Expr) (effect other : Effect) → IsOne (link v (instr.Call a first g) m) (lock.Expr e effect) → IsOne (dereferenced (lock.Expr e effect)) (lock.Expr k other) →
    IsOne (link v (instr.Call a first g) (lock.Expr k other)) (lock.Expr k other)
prefix_left v a first g m e k effect other o p =
    let left = call_leaves v a first g m e effect o in
    let f = prefix_is e.base [] e.path k other p in
    let front : Expr = record { base = e.base; path = f.0 } in
    let past = or_second (is_register a e.base) (goes_through v.classes (v.stores g) (base_class v.classes v.function e.base) e.path) left.1 in
    let kept : is_lost v a g front ≡ false =
    ap₂ (λ x y. x || y) (or_first (is_register a e.base) _ left.1)
    (front_past v.classes (v.stores g) (base_class v.classes v.function e.base) f.0 (Deref ∷ f.1) (ap (goes_through v.classes (v.stores g) (base_class v.classes v.function e.base)) (sym f.4) ∙ past)) in
    let class = front_class v.classes f.0 (Deref ∷ f.1) (base_class v.classes v.function e.base) left.2.0 (ap (λ ops. path_class v.classes ops (base_class v.classes v.function e.base)) (sym f.4) ∙ left.2.1) in
    let len : length f.0 ≤ length e.path = (let s = ap length f.4 ∙ length-append f.0 (Deref ∷ f.1) in omega (arith, s)) in
    subst (λ (y : Expr). IsOne (link v (instr.Call a first g) (lock.Expr y other)) (lock.Expr y other)) (sym f.3)
    (call_keeps v a first g front other class.0 kept class.1 (shorter (length f.0) (length e.path) v.k_limit len left.3))

pub no_root : (base : Base) (done ops : List Op) (effect : Effect) → IsOne (prefixes base done ops) (lock.Root effect) → ⊥
no_root base done [] effect o = o
no_root base done (Off places ∷ ops) effect o = no_root base (done ++ Off places ∷ []) ops effect o
no_root base done (Deref ∷ ops) effect (inl is) = let f : lock.Expr (record { base = base; path = done }) Read ≡ lock.Root effect = is in cc
no_root base done (Deref ∷ ops) effect (inr o) = no_root base (done ++ Deref ∷ []) ops effect o

pub no_class_lock : (base : Base) (done ops : List Op) (x : ℕ) (effect : Effect) → IsOne (prefixes base done ops) (lock.Class x effect) → ⊥
no_class_lock base done [] x effect o = o
no_class_lock base done (Off places ∷ ops) x effect o = no_class_lock base (done ++ Off places ∷ []) ops x effect o
no_class_lock base done (Deref ∷ ops) x effect (inl is) = let f : lock.Expr (record { base = base; path = done }) Read ≡ lock.Class x effect = is in cc
no_class_lock base done (Deref ∷ ops) x effect (inr o) = no_class_lock base (done ++ Deref ∷ []) ops x effect o

-- a path whose dereferenced prefixes denote cells other than the changed one leads where it led
pub not_crossed : (h new : Seen) (c0 : Cell) (value : Value) → IsWrite h new c0 value → (regs : List Value) (base : Base) (done ops : List Op) (o : Option Cell) → path_cell h done (base_cell regs base) ≡ o →
    ((e : Expr) → IsOne (prefixes base done ops) (lock.Expr e Read) → cell_denoted h regs e ≢ Some c0) → path_cell new ops o ≡ path_cell h ops o
not_crossed h new c0 value w regs base done ops None at apart = no_cell_from_none new ops ∙ sym (no_cell_from_none h ops)
not_crossed h new c0 value w regs base done [] (Some cell) at apart = refl
not_crossed h new c0 value w regs base done (Off places ∷ ops) (Some cell) at apart =
    ap (path_cell new ops) (moved_same h new w.sizes places cell)
    ∙ not_crossed h new c0 value w regs base (done ++ Off places ∷ []) ops (moved h places cell) (path_append h done (Off places ∷ []) (base_cell regs base) ∙ ap (path_cell h (Off places ∷ [])) at) apart
not_crossed h new c0 value w regs base done (Deref ∷ ops) (Some cell) at apart =
    let other : cell ≢ c0 = λ is. apart (record { base = base; path = done }) (inl refl) (at ∙ ap (λ (k : Cell). Some k) is) in
    ap (path_cell new ops) (walked_same h new c0 value w cell other)
    ∙ not_crossed h new c0 value w regs base (done ++ Deref ∷ []) ops (walked h Deref cell) (path_append h done (Deref ∷ []) (base_cell regs base) ∙ ap (path_cell h (Deref ∷ [])) at) (λ e o. apart e (inr o))

-- what settles is short and has a class, where it is an expression
pub settled_well : (v : LinkContext) (n m : Lock) → IsOne (settle v n) m → IsSettled v m
settled_well v (lock.Root effect) m (inl is) = subst (IsSettled v) is tt
settled_well v (lock.Root effect) m (inr o) = absurd o
settled_well v (lock.Class x effect) m (inl is) = subst (IsSettled v) is tt
settled_well v (lock.Class x effect) m (inr o) = absurd o
settled_well v (lock.Expr e effect) m o =
    elim (class_of v.classes v.function e) as (λ c. class_of v.classes v.function e ≡ c → IsOne (settled v e effect c) m → IsSettled v m) [
      | None ↦ λ is k. absurd k
      | Some x ↦ λ is k. elim k [
        | inl same ↦ subst (IsSettled v) same
            (elim (nat_le (length e.path) v.k_limit) as (λ b. nat_le (length e.path) v.k_limit ≡ b → IsSettled v (cond b (lock.Expr e effect) (lock.Class x effect))) [
              | true ↦ λ short. (short, (x, is))
              | false ↦ λ short. tt
            ] refl)
        | inr f ↦ absurd f
      ]
    ] refl o

pub all_settled : (v : LinkContext) (ms : List Lock) (m : Lock) → IsOne (flat_map (settle v) ms) m → IsSettled v m
all_settled v [] m o = absurd o
all_settled v (n ∷ ms) m o = elim (one_either (settle v n) (flat_map (settle v) ms) m o) [ inl p ↦ settled_well v n m p | inr q ↦ all_settled v ms m q ]

pub linked_well : (v : LinkContext) (i : Instr) (l m : Lock) → IsOne (link v i l) m → IsSettled v m
linked_well v i (lock.Root effect) m (inl is) = subst (IsSettled v) is tt
linked_well v i (lock.Root effect) m (inr o) = absurd o
linked_well v i (lock.Class x effect) m (inl is) = subst (IsSettled v) is tt
linked_well v i (lock.Class x effect) m (inr o) = absurd o
linked_well v i (lock.Expr e effect) m o = all_settled v (before v i e effect) m o
