-- The class of a path, taken in parts.
use Rattle.std.proofs.Common.{◌≡◌, ℕ, ◌+◌, ◌<◌, ◌≤◌, ◌++◌, true, false, cond, List, [], ◌∷◌, Option, Some, length, get_or, drop, refl, ap, sym, ◌∙◌, arith, rules, length-append}
use Rattle.std.specs.Prelude.{option_and_then, nat_le}
use Rattle.std.proofs.lemmas.List.{at_drop_more}
use Rattle.asl_code.specs.declared.value.Effect.{Effect}
use Rattle.asl_code.specs.declared.lock.Base.{Base}
use Rattle.asl_code.specs.declared.lock.Lock.TheVariants as lock
use Rattle.asl_code.specs.declared.path.Op.{Op}
use Rattle.asl_points_to.specs.Classes.{Classed}
use Rattle.asl_lock_expr.specs.ClassOf.{base_class, path_class, step_class}
use Rattle.asl_lock_expr.specs.Links.{LinkContext, on, settled, settle}

-- one operation more
pub class_more : (c : Classed) (ops : List Op) (i : ℕ) (d : Op) (class next : Option ℕ) → i < length ops → next ≡ option_and_then (step_class c (get_or ops i d)) class →
    path_class c (drop i ops) class ≡ path_class c (drop (i + 1) ops) next
class_more c ops i d class next lt e =
    at_drop_more (λ (rest : List Op). path_class c rest class) ops i d lt ∙ ap (path_class c (drop (i + 1) ops)) (sym e)

-- a path after a path
pub class_append : (c : Classed) (p q : List Op) (start : Option ℕ) → path_class c (p ++ q) start ≡ path_class c q (path_class c p start)
class_append c [] q start = refl
class_append c (op ∷ p) q start = class_append c p q (option_and_then (step_class c op) start)

-- what an expression becomes, by the class after the parts of its path
pub settle_by : (v : LinkContext) (base : Base) (front rest : List Op) (effect : Effect) (start middle end : Option ℕ) → start ≡ base_class v.classes v.function base →
    middle ≡ path_class v.classes front start → end ≡ path_class v.classes rest middle →
    settle v (on base (front ++ rest) effect) ≡ settled v (record { base = base; path = front ++ rest }) effect end
settle_by v base front rest effect start middle end s m e =
    let whole : path_class v.classes (front ++ rest) (base_class v.classes v.function base) ≡ end =
    class_append v.classes front rest (base_class v.classes v.function base)
    ∙ ap (λ (o : Option ℕ). path_class v.classes rest (path_class v.classes front o)) (sym s)
    ∙ ap (path_class v.classes rest) (sym m)
    ∙ sym e in
    ap (settled v (record { base = base; path = front ++ rest }) effect) whole

pub settled_short : (v : LinkContext) (base : Base) (front rest : List Op) (effect : Effect) (class : ℕ) → length front + length rest ≤ v.k_limit →
    settled v (record { base = base; path = front ++ rest }) effect (Some class) ≡ on base (front ++ rest) effect ∷ []
settled_short v base front rest effect class le =
    let fits : length (front ++ rest) ≤ v.k_limit = omega (arith, length-append front rest) in
    let is : nat_le (length (front ++ rest)) v.k_limit ≡ true = search (rules, arith) in
    ap (λ t. cond t (on base (front ++ rest) effect) (lock.Class class effect) ∷ []) is

pub settled_long : (v : LinkContext) (base : Base) (front rest : List Op) (effect : Effect) (class : ℕ) → v.k_limit < length front + length rest →
    settled v (record { base = base; path = front ++ rest }) effect (Some class) ≡ lock.Class class effect ∷ []
settled_long v base front rest effect class lt =
    let past : v.k_limit < length (front ++ rest) = omega (arith, length-append front rest) in
    let is : nat_le (length (front ++ rest)) v.k_limit ≡ false = search (rules, arith) in
    ap (λ t. cond t (on base (front ++ rest) effect) (lock.Class class effect) ∷ []) is
