-- What a grant of a list's request lets the thread do.
use Rattle.std.proofs.Common.{◌≡◌, ℕ, zero, suc, ◌<◌, true, false, cond, List, [], ◌∷◌, length, Some, slice_get, refl, ap, sym, ◌∙◌, subst, inl, inr, arith}
use Rattle.std.specs.Option.{option_map_or}
use Rattle.std.proofs.lemmas.List.{length-append}
use Rattle.std.proofs.lemmas.Option.{same_Some}
use Rattle.asl_code.specs.Locks.{effect_of}
use Rattle.asl_code.specs.declared.value.Value.{Value}
use Rattle.asl_code.specs.declared.value.Cell.{Cell}
use Rattle.asl_code.specs.declared.lock.Lock.{Lock}
use Rattle.asl_code.specs.declared.lock.Lock.TheVariants as lock
use Rattle.asl_mode_lanes.specs.declared.mode.Mode.{Mode}
use Rattle.asl_mode_lanes.specs.Mode.{AtMost, join_of}
use Rattle.asl_lock_forest.specs.declared.node.Node.{Node}
use Rattle.asl_lock_forest.specs.declared.node.Node.TheVariants.{Root, Class, Leaf}
use Rattle.asl_lock_forest.specs.Node.{same_node}
use Rattle.asl_lock_forest.specs.Holding.{Request, Holding, HoldsNothing, held, grant, covering_mode, Covers}
use Rattle.asl_lock_forest.proofs.Laws.{held_grant_own}
use Rattle.asl_lock_forest.proofs.NinePairs.{covers_at, at_leaf, at_class, at_root}
use Rattle.asl_machine.specs.State.{Object}
use Rattle.asl_machine.specs.Request.{leaf_asks, cell_asks, asks_of, all_asks, joined_with, joined_all, request_of, IsAsk, IsOn}
use Rattle.asl_machine.proofs.LeastRequests.{request_is_least}
use Rattle.asl_machine.proofs.RootedRequests.{ask_left, ask_right}

-- what a lock asks is among the asks of its list
pub asks_among : (objects : List Object) (regs : List Value) (locks : List Lock) (place : ℕ) (l : Lock) → slice_get locks place ≡ Some l →
    (node : Node) (mode : Mode) → IsAsk (asks_of objects regs l) node mode → IsAsk (all_asks objects regs locks) node mode
asks_among objects regs [] place l e node mode a = cc
asks_among objects regs (k ∷ ls) zero l e node mode a =
    ask_left (asks_of objects regs k) (all_asks objects regs ls) node mode (subst (λ x. IsAsk (asks_of objects regs x) node mode) (sym (same_Some k l e)) a)
asks_among objects regs (k ∷ ls) (suc place) l e node mode a =
    ask_right (asks_of objects regs k) (all_asks objects regs ls) node mode (asks_among objects regs ls place l e node mode a)

-- after the grant each node is held in at least the mode that a lock of the list asks there
pub asked_held : (h : Holding) (t : ℕ) (objects : List Object) (regs : List Value) (locks : List Lock) (place : ℕ) (l : Lock) (node : Node) (mode : Mode) →
    HoldsNothing h t → slice_get locks place ≡ Some l → IsAsk (asks_of objects regs l) node mode → AtMost mode (held (grant h t (request_of objects regs locks)) t node)
asked_held h t objects regs locks place l node mode none at a =
    subst (AtMost mode) (sym (held_grant_own h t (request_of objects regs locks) node none))
    ((request_is_least objects regs locks).enough node mode (asks_among objects regs locks place l at node mode a))

-- after the grant the cells that a lock of the list is on are covered
pub lock_covers : (h : Holding) (t : ℕ) (objects : List Object) (regs : List Value) (locks : List Lock) (place : ℕ) (l : Lock) (cell : Cell) (class : ℕ) →
    HoldsNothing h t → slice_get locks place ≡ Some l → IsOn objects regs l cell class → Covers (grant h t (request_of objects regs locks)) t cell class (effect_of l)
lock_covers h t objects regs locks place (lock.Root effect) cell class none at on =
    covers_at _ t cell class effect at_root (asked_held h t objects regs locks place (lock.Root effect) Root (covering_mode effect) none at (inl (refl, refl)))
lock_covers h t objects regs locks place (lock.Class own effect) cell class none at on =
    covers_at _ t cell class effect at_class
    (subst (λ k. AtMost (covering_mode effect) (held (grant h t (request_of objects regs locks)) t (Class k))) on
    (asked_held h t objects regs locks place (lock.Class own effect) (Class own) (covering_mode effect) none at (inr (inl (refl, refl)))))
lock_covers h t objects regs locks place (lock.Expr expr effect) cell class none at on =
    let asks : asks_of objects regs (lock.Expr expr effect) ≡ leaf_asks cell effect class =
    ap (cell_asks objects effect) on.0 ∙ ap (λ o. option_map_or (leaf_asks cell effect) o []) on.1 in
    covers_at _ t cell class effect at_leaf
    (asked_held h t objects regs locks place (lock.Expr expr effect) (Leaf cell class) (covering_mode effect) none at
    (subst (λ r. IsAsk r (Leaf cell class) (covering_mode effect)) (sym asks) (inr (inr (inl (refl, refl))))))

-- a list with a lock that asks for something asks for something
some_among : (objects : List Object) (regs : List Value) (locks : List Lock) (place : ℕ) (l : Lock) → slice_get locks place ≡ Some l → 0 < length (asks_of objects regs l) →
    0 < length (all_asks objects regs locks)
some_among objects regs [] place l e some = cc
some_among objects regs (k ∷ ls) zero l e some =
    let here : 0 < length (asks_of objects regs k) = subst (λ x. 0 < length (asks_of objects regs x)) (sym (same_Some k l e)) some in
    omega (arith, here, length-append (asks_of objects regs k) (all_asks objects regs ls))
some_among objects regs (k ∷ ls) (suc place) l e some =
    let later = some_among objects regs ls place l e some in
    omega (arith, later, length-append (asks_of objects regs k) (all_asks objects regs ls))

-- and so does its request
some_joined : (request : Request) (node : Node) (mode : Mode) → 0 < length (joined_with request node mode)
some_joined [] node mode = omega arith
some_joined (ask ∷ others) node mode =
    elim (same_node ask.0 node) as (λ b. 0 < length (cond b ((ask.0, join_of ask.1 mode) ∷ others) (ask ∷ joined_with others node mode))) [ true ↦ omega arith | false ↦ omega arith ]

some_joined_all : (request asks : Request) → 0 < length request → 0 < length (joined_all request asks)
some_joined_all request [] some = some
some_joined_all request (ask ∷ asks) some = some_joined_all (joined_with request ask.0 ask.1) asks (some_joined request ask.0 ask.1)

some_joined_asks : (asks : Request) → 0 < length asks → 0 < length (joined_all [] asks)
some_joined_asks [] some = absurd (omega arith)
some_joined_asks (ask ∷ asks) some = some_joined_all (joined_with [] ask.0 ask.1) asks (some_joined [] ask.0 ask.1)

pub some_requested : (objects : List Object) (regs : List Value) (locks : List Lock) (place : ℕ) (l : Lock) → slice_get locks place ≡ Some l → 0 < length (asks_of objects regs l) →
    0 < length (request_of objects regs locks)
some_requested objects regs locks place l at some = some_joined_asks (all_asks objects regs locks) (some_among objects regs locks place l at some)
