-- A request that asks of a node asks of the node's parent what that needs: each ask of a lock brings along asks of the nodes above.
use Rattle.std.proofs.Common.{◌≡◌, ℕ, ◌⊎◌, Bool, true, false, cond, List, [], ◌∷◌, ◌++◌, Option, None, Some, refl, sym, ap, subst, inl, inr}
use Rattle.std.specs.Option.{option_map_or}
use Rattle.asl_code.specs.declared.value.Value.{Value}
use Rattle.asl_code.specs.declared.value.Cell.{Cell}
use Rattle.asl_code.specs.declared.value.Effect.{Effect}
use Rattle.asl_code.specs.declared.value.Effect.TheVariants.{Read, Write}
use Rattle.asl_code.specs.declared.lock.Lock.{Lock}
use Rattle.asl_code.specs.declared.lock.Lock.TheVariants as lock
use Rattle.asl_mode_lanes.specs.declared.mode.Mode.{Mode}
use Rattle.asl_mode_lanes.specs.declared.mode.Mode.TheVariants.{NL, IS, IX, S, SIX, X}
use Rattle.asl_mode_lanes.specs.Mode.{AtMost, join_of}
use Rattle.asl_mode_lanes.proofs.ModeLaws.{at_most_trans}
use Rattle.asl_lock_forest.specs.declared.node.Node.{Node}
use Rattle.asl_lock_forest.specs.declared.node.Node.TheVariants.{Root, Class, Leaf}
use Rattle.asl_lock_forest.specs.Node.{same_node, parent_of, parent_mode, IsRooted}
use Rattle.asl_lock_forest.specs.Holding.{Request, asked, covering_mode}
use Rattle.asl_machine.specs.State.{Object, class_of}
use Rattle.asl_expression.specs.Expression.{cell_denoted}
use Rattle.asl_machine.specs.Request.{IsAsk, asks_of, cell_asks, leaf_asks, all_asks, upper_mode, joined_with, joined_all, request_of, heap_of}
use Rattle.asl_machine.proofs.LeastRequests.{asked-joined_with, same_is, enough_all}

-- for a parent, a join of two modes wants what one of them wants
parent_join : (a b : Mode) → (parent_mode (join_of a b) ≡ parent_mode a) ⊎ (parent_mode (join_of a b) ≡ parent_mode b)
parent_join NL NL = inl refl
parent_join NL IS = inr refl
parent_join NL IX = inr refl
parent_join NL S = inr refl
parent_join NL SIX = inr refl
parent_join NL X = inr refl
parent_join IS NL = inl refl
parent_join IS IS = inl refl
parent_join IS IX = inr refl
parent_join IS S = inl refl
parent_join IS SIX = inr refl
parent_join IS X = inr refl
parent_join IX NL = inl refl
parent_join IX IS = inl refl
parent_join IX IX = inl refl
parent_join IX S = inl refl
parent_join IX SIX = inl refl
parent_join IX X = inl refl
parent_join S NL = inl refl
parent_join S IS = inl refl
parent_join S IX = inr refl
parent_join S S = inl refl
parent_join S SIX = inr refl
parent_join S X = inr refl
parent_join SIX NL = inl refl
parent_join SIX IS = inl refl
parent_join SIX IX = inl refl
parent_join SIX S = inl refl
parent_join SIX SIX = inl refl
parent_join SIX X = inl refl
parent_join X NL = inl refl
parent_join X IS = inl refl
parent_join X IX = inl refl
parent_join X S = inl refl
parent_join X SIX = inl refl
parent_join X X = inl refl

-- what a parent is to be asked for a mode that is joined or not
parent_cond : (b : Bool) (a m q : Mode) → AtMost (parent_mode a) q → (b ≡ true → AtMost (parent_mode m) q) → AtMost (parent_mode (cond b (join_of a m) a)) q
parent_cond false a m q h k = h
parent_cond true a m q h k =
    elim (parent_join a m) [
      | inl e ↦ subst (λ o. AtMost o q) (sym e) h
      | inr e ↦ subst (λ o. AtMost o q) (sym e) (k refl)
    ]

-- what a parent is to be asked after an ask more, and after many
parent_with : (request : Request) (n : Node) (m : Mode) (x : Node) (q : Mode) → AtMost (parent_mode (asked request x)) q → (n ≡ x → AtMost (parent_mode m) q) → AtMost (parent_mode (asked (joined_with request n m) x)) q
parent_with request n m x q h k =
    subst (λ o. AtMost (parent_mode o) q) (sym (asked-joined_with request n m x)) (parent_cond (same_node n x) (asked request x) m q h (λ e. k (same_is n x e)))

parent_all : (asks request : Request) (x : Node) (q : Mode) → AtMost (parent_mode (asked request x)) q → ((m : Mode) → IsAsk asks x m → AtMost (parent_mode m) q) → AtMost (parent_mode (asked (joined_all request asks) x)) q
parent_all [] request x q h k = h
parent_all (ask ∷ asks) request x q h k =
    parent_all asks (joined_with request ask.0 ask.1) x q (parent_with request ask.0 ask.1 x q h (λ e. k ask.1 (inl (e, refl)))) (λ m i. k m (inr i))

-- each ask's parent is asked as it must be
AsksParents : Request → Type 0
AsksParents asks = (n p : Node) (m : Mode) → parent_of n ≡ Some p → IsAsk asks n m → (up : Mode) × (IsAsk asks p up) × AtMost (parent_mode m) up

-- an ask of one of two lists is one of both together, and the other way round
pub ask_left : (xs ys : Request) (n : Node) (m : Mode) → IsAsk xs n m → IsAsk (xs ++ ys) n m
ask_left [] ys n m h = absurd h
ask_left (x ∷ xs) ys n m h = elim h [ inl e ↦ inl e | inr i ↦ inr (ask_left xs ys n m i) ]

pub ask_right : (xs ys : Request) (n : Node) (m : Mode) → IsAsk ys n m → IsAsk (xs ++ ys) n m
ask_right [] ys n m h = h
ask_right (x ∷ xs) ys n m h = inr (ask_right xs ys n m h)

pub ask_either : (xs ys : Request) (n : Node) (m : Mode) → IsAsk (xs ++ ys) n m → IsAsk xs n m ⊎ IsAsk ys n m
ask_either [] ys n m h = inr h
ask_either (x ∷ xs) ys n m h =
    elim h [
      | inl e ↦ inl (inl e)
      | inr i ↦ elim (ask_either xs ys n m i) [ inl a ↦ inl (inr a) | inr b ↦ inr b ]
    ]

parents-append : (xs ys : Request) → AsksParents xs → AsksParents ys → AsksParents (xs ++ ys)
unfolding AsksParents
parents-append xs ys a b n p m e h =
    elim (ask_either xs ys n m h) [
      | inl i ↦ let r = a n p m e i in (r.0, ask_left xs ys p r.0 r.1, r.2)
      | inr i ↦ let r = b n p m e i in (r.0, ask_right xs ys p r.0 r.1, r.2)
    ]

-- what a lock's upper modes want of the parent is the upper mode
upper_self : (e : Effect) → AtMost (parent_mode (upper_mode e)) (upper_mode e)
upper_self Read = refl
upper_self Write = refl

upper_own : (e : Effect) → AtMost (parent_mode (covering_mode e)) (upper_mode e)
upper_own Read = refl
upper_own Write = refl

-- the parents of the nodes that a lock asks
no_parent : (n p : Node) → Root ≡ n → parent_of n ≡ Some p → ⊥
no_parent n p e s = let h : parent_of n ≡ None = ap parent_of (sym e) in cc

class_parent : (n p : Node) (c : ℕ) → Class c ≡ n → parent_of n ≡ Some p → Root ≡ p
class_parent n p c e s = let h : parent_of n ≡ Some Root = ap parent_of (sym e) in cc

leaf_parent : (n p : Node) (x : Cell) (c : ℕ) → Leaf x c ≡ n → parent_of n ≡ Some p → Class c ≡ p
leaf_parent n p x c e s = let h : parent_of n ≡ Some (Class c) = ap parent_of (sym e) in cc

-- each kind of lock asks of parents as it must
parents_leaf : (cell : Cell) (effect : Effect) (class : ℕ) → AsksParents (leaf_asks cell effect class)
unfolding AsksParents
parents_leaf cell effect class n p m s h =
    elim h [
      | inl e ↦ absurd (no_parent n p e.0 s)
      | inr i ↦ elim i [
        | inl e ↦ (upper_mode effect, inl (class_parent n p class e.0 s, refl), subst (λ o. AtMost (parent_mode o) (upper_mode effect)) e.1 (upper_self effect))
        | inr j ↦ elim j [
          | inl e ↦ (upper_mode effect, inr (inl (leaf_parent n p cell class e.0 s, refl)), subst (λ o. AtMost (parent_mode o) (upper_mode effect)) e.1 (upper_own effect))
          | inr k ↦ absurd k
        ]
      ]
    ]

parents_class : (effect : Effect) (class : ℕ) → AsksParents ((Root, upper_mode effect) ∷ (Class class, covering_mode effect) ∷ [])
unfolding AsksParents
parents_class effect class n p m s h =
    elim h [
      | inl e ↦ absurd (no_parent n p e.0 s)
      | inr i ↦ elim i [
        | inl e ↦ (upper_mode effect, inl (class_parent n p class e.0 s, refl), subst (λ o. AtMost (parent_mode o) (upper_mode effect)) e.1 (upper_own effect))
        | inr k ↦ absurd k
      ]
    ]

parents_root : (effect : Effect) → AsksParents ((Root, covering_mode effect) ∷ [])
unfolding AsksParents
parents_root effect n p m s h = elim h [ inl e ↦ absurd (no_parent n p e.0 s) | inr k ↦ absurd k ]

parents_none : AsksParents []
unfolding AsksParents
parents_none n p m s h = absurd h

parents_at : (cell : Cell) (effect : Effect) (class : Option ℕ) → AsksParents (option_map_or (leaf_asks cell effect) class [])
parents_at cell effect None = parents_none
parents_at cell effect (Some class) = parents_leaf cell effect class

parents_cell : (objects : List Object) (effect : Effect) (cell : Option Cell) → AsksParents (cell_asks objects effect cell)
parents_cell objects effect None = parents_none
parents_cell objects effect (Some cell) = parents_at cell effect (class_of objects cell.object)

parents_lock : (objects : List Object) (regs : List Value) (l : Lock) → AsksParents (asks_of objects regs l)
parents_lock objects regs (lock.Root effect) = parents_root effect
parents_lock objects regs (lock.Class class effect) = parents_class effect class
parents_lock objects regs (lock.Expr expr effect) = parents_cell objects effect (cell_denoted (heap_of objects) regs expr)

parents_locks : (objects : List Object) (regs : List Value) (locks : List Lock) → AsksParents (all_asks objects regs locks)
parents_locks objects regs [] = parents_none
parents_locks objects regs (l ∷ ls) = parents-append (asks_of objects regs l) (all_asks objects regs ls) (parents_lock objects regs l) (parents_locks objects regs ls)

-- each node's parent is asked as it must be
pub request_is_rooted : (objects : List Object) (regs : List Value) (locks : List Lock) → IsRooted (asked (request_of objects regs locks))
unfolding AsksParents
request_is_rooted objects regs locks n p s =
    let asks = all_asks objects regs locks in
    parent_all asks [] n (asked (joined_all [] asks) p) refl (λ m i.
    let up = parents_locks objects regs locks n p m s i in
    at_most_trans _ _ _ up.2 (enough_all asks [] p up.0 up.1))
