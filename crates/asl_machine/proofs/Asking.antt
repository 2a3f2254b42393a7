-- What a lock asks by its own node, and whether its list can be granted.
use Rattle.std.proofs.Common.{◌≡◌, ℕ, ◌<◌, ◌+◌, suc, arith, Bool, true, false, cond, List, [], ◌∷◌, ◌++◌, length, drop, take, get_or, Option, None, Some, slice_get, refl, sym, ap, ◌∙◌, subst, inl, inr}
use Rattle.std.specs.Option.{option_map, option_map_or}
use Rattle.std.proofs.lemmas.Option.{same_Some}
use Rattle.asl_code.specs.Locks.{effect_of}
use Rattle.asl_code.specs.declared.value.Value.{Value}
use Rattle.asl_code.specs.declared.value.Cell.{Cell}
use Rattle.asl_code.specs.declared.value.Effect.{Effect}
use Rattle.asl_code.specs.declared.lock.Lock.{Lock}
use Rattle.asl_code.specs.declared.lock.Lock.TheVariants as lock
use Rattle.asl_expression.specs.Expression.{cell_denoted}
use Rattle.asl_mode_lanes.specs.declared.mode.Mode.{Mode}
use Rattle.asl_mode_lanes.specs.declared.mode.Mode.TheVariants.{NL, IS, IX, S, SIX, X}
use Rattle.asl_mode_lanes.specs.Mode.{AtMost, AreCompatible, join_of}
use Rattle.asl_mode_lanes.proofs.ModeLaws.{compatible_below, join_least}
use Rattle.asl_lock_forest.specs.declared.node.Node.{Node}
use Rattle.asl_lock_forest.specs.declared.node.Node.TheVariants.{Root, Class, Leaf}
use Rattle.asl_lock_forest.specs.Node.{same_node, IsThere}
use Rattle.asl_lock_forest.specs.Holding.{Holding, Request, held, asked, CanGrant, can_grant}
use Rattle.asl_lock_forest.specs.Request.{GoesWithOthers, IsKeptFrom}
use Rattle.asl_lock_forest.proofs.Laws.{tell_nodes}
use Rattle.asl_lock_forest.proofs.Grantable.{can_grant-tells}
use Rattle.asl_machine.specs.State.{Object, class_of}
use Rattle.asl_machine.specs.Access.{AreOfClasses}
use Rattle.asl_machine.specs.Request.{LockOfClass, IsAsk, asks_of, all_asks, cell_asks, leaf_asks, joined_with, joined_all, request_of, heap_of}
use Rattle.asl_machine.specs.Asking.{leaf_of, node_of, asks_at, AreFree, IsHeldUp}
use Rattle.asl_machine.proofs.LeastRequests.{asked-joined_with, request_is_least}
use Rattle.asl_machine.proofs.Asks.{asks_among}
use Rattle.asl_machine.proofs.Joins.{joined_all-append}
use Rattle.std.proofs.lemmas.List.{append_assoc, append-nil, take_more}
use Rattle.std.proofs.Math.Seq.{drop-cons}

-- the asks of a lock that has this node, or none
abbrev pub asks_for : Effect → Option Node → Request
asks_for effect None = []
asks_for effect (Some node) = asks_at effect node

-- what a lock asks is what a lock on its node asks
for_class : (cell : Cell) (effect : Effect) (class : Option ℕ) → option_map_or (leaf_asks cell effect) class [] ≡ asks_for effect (option_map (λ c. Leaf cell c) class)
for_class cell effect None = refl
for_class cell effect (Some c) = refl

for_cell : (objects : List Object) (effect : Effect) (cell : Option Cell) → cell_asks objects effect cell ≡ asks_for effect (leaf_of objects cell)
for_cell objects effect None = refl
for_cell objects effect (Some cell) = for_class cell effect (class_of objects cell.object)

pub asks_for_node : (objects : List Object) (regs : List Value) (l : Lock) → asks_of objects regs l ≡ asks_for (effect_of l) (node_of objects regs l)
asks_for_node objects regs (lock.Root effect) = refl
asks_for_node objects regs (lock.Class class effect) = refl
asks_for_node objects regs (lock.Expr expr effect) = for_cell objects effect (cell_denoted (heap_of objects) regs expr)

-- so where the lock has a node, and where it has none
pub asks_some : (objects : List Object) (regs : List Value) (l : Lock) (node : Node) → node_of objects regs l ≡ Some node → asks_of objects regs l ≡ asks_at (effect_of l) node
asks_some objects regs l node is = asks_for_node objects regs l ∙ ap (asks_for (effect_of l)) is

pub asks_none : (objects : List Object) (regs : List Value) (l : Lock) → node_of objects regs l ≡ None → asks_of objects regs l ≡ []
asks_none objects regs l is = asks_for_node objects regs l ∙ ap (asks_for (effect_of l)) is

-- the node of a lock is there
class_there : (classes : ℕ) (cell : Cell) (class : Option ℕ) (node : Node) → ((c : ℕ) → class ≡ Some c → c < classes)
    → option_map (λ c. Leaf cell c) class ≡ Some node → IsThere classes node
class_there classes cell None node k e = cc
class_there classes cell (Some c) node k e = subst (IsThere classes) (same_Some (Leaf cell c) node e) (k c refl)

leaf_there : (classes : ℕ) (objects : List Object) (cell : Option Cell) (node : Node) → AreOfClasses classes objects → leaf_of objects cell ≡ Some node → IsThere classes node
leaf_there classes objects None node k e = cc
leaf_there classes objects (Some cell) node k e = class_there classes cell (class_of objects cell.object) node (λ c h. k cell.object c h) e

pub node_there : (classes : ℕ) (objects : List Object) (regs : List Value) (l : Lock) (node : Node) → LockOfClass classes l → AreOfClasses classes objects
    → node_of objects regs l ≡ Some node → IsThere classes node
node_there classes objects regs (lock.Root effect) node f k e = subst (IsThere classes) (same_Some Root node e) tt
node_there classes objects regs (lock.Class class effect) node f k e = subst (IsThere classes) (same_Some (Class class) node e) f
node_there classes objects regs (lock.Expr expr effect) node f k e = leaf_there classes objects (cell_denoted (heap_of objects) regs expr) node k e

-- the greatest mode that goes with a mode
abbrev partner : Mode → Mode
partner NL = X
partner IS = SIX
partner IX = IX
partner S = S
partner SIX = IS
partner X = NL

partner_goes : (c : Mode) → AreCompatible (partner c) c
partner_goes NL = refl
partner_goes IS = refl
partner_goes IX = refl
partner_goes S = refl
partner_goes SIX = refl
partner_goes X = refl

goes_below : (a c : Mode) → AreCompatible a c → AtMost a (partner c)
goes_below NL NL h = refl
goes_below NL IS h = refl
goes_below NL IX h = refl
goes_below NL S h = refl
goes_below NL SIX h = refl
goes_below NL X h = refl
goes_below IS NL h = refl
goes_below IS IS h = refl
goes_below IS IX h = refl
goes_below IS S h = refl
goes_below IS SIX h = refl
goes_below IS X h = cc
goes_below IX NL h = refl
goes_below IX IS h = refl
goes_below IX IX h = refl
goes_below IX S h = cc
goes_below IX SIX h = cc
goes_below IX X h = cc
goes_below S NL h = refl
goes_below S IS h = refl
goes_below S IX h = cc
goes_below S S h = refl
goes_below S SIX h = cc
goes_below S X h = cc
goes_below SIX NL h = refl
goes_below SIX IS h = refl
goes_below SIX IX h = cc
goes_below SIX S h = cc
goes_below SIX SIX h = cc
goes_below SIX X h = cc
goes_below X NL h = refl
goes_below X IS h = cc
goes_below X IX h = cc
goes_below X S h = cc
goes_below X SIX h = cc
goes_below X X h = cc

-- a join goes with what both of its modes go with
pub join_goes : (a b c : Mode) → AreCompatible a c → AreCompatible b c → AreCompatible (join_of a b) c
join_goes a b c h k = compatible_below (join_of a b) (partner c) c (join_least a b (partner c) (goes_below a c h) (goes_below b c k)) (partner_goes c)

goes_cond : (p : Bool) (a m c : Mode) → AreCompatible a c → (p ≡ true → AreCompatible m c) → AreCompatible (cond p (join_of a m) a) c
goes_cond true a m c h k = join_goes a m c h (k refl)
goes_cond false a m c h k = h

pub same_is : (a b : Node) → same_node a b ≡ true → a ≡ b
same_is a b e = elim (tell_nodes a b) [ inl t ↦ t.1 | inr t ↦ let h = t.0 in cc ]

-- asks that are free can be joined to a request that is
free_with : (h : Holding) (t : ℕ) (request : Request) (n : Node) (m : Mode) → CanGrant h t request → GoesWithOthers h t n m → CanGrant h t (joined_with request n m)
free_with h t request n m can free other x apart =
    subst (λ a. AreCompatible a (held h other x)) (sym (asked-joined_with request n m x))
    (goes_cond (same_node n x) (asked request x) m (held h other x) (can other x apart)
    (λ e. subst (λ y. AreCompatible m (held h other y)) (same_is n x e) (free other apart)))

pub free_all : (h : Holding) (t : ℕ) (request asks : Request) → CanGrant h t request → AreFree h t asks → CanGrant h t (joined_all request asks)
free_all h t request [] can free = can
free_all h t request (ask ∷ asks) can free =
    free_all h t (joined_with request ask.0 ask.1) asks (free_with h t request ask.0 ask.1 can free.0) free.1

-- who asks for nothing can have it
pub free_none : (h : Holding) (t : ℕ) → CanGrant h t []
free_none h t other x apart = refl

-- who is kept from an ask of a list cannot be granted its request
held_ask : (h : Holding) (t : ℕ) (asks : Request) → IsHeldUp h t asks → (node : Node) × (mode : Mode) × IsAsk asks node mode × IsKeptFrom h t node mode
held_ask h t [] blocked = absurd blocked
held_ask h t (ask ∷ asks) blocked = elim blocked [
  | inl kept ↦ (ask.0, ask.1, inl (refl, refl), kept)
  | inr later ↦ let rest = held_ask h t asks later in (rest.0, rest.1, inr rest.2, rest.3)
]

pub not_true : (b : Bool) → (b ≡ true → ⊥) → b ≡ false
not_true true never = absurd (never refl)
not_true false never = refl

pub held_up : (h : Holding) (t : ℕ) (objects : List Object) (regs : List Value) (locks : List Lock) (place : ℕ) (l : Lock)
    → slice_get locks place ≡ Some l → IsHeldUp h t (asks_of objects regs l) → can_grant h t (request_of objects regs locks) ≡ false
held_up h t objects regs locks place l at blocked =
    let found = held_ask h t (asks_of objects regs l) blocked in
    let among = asks_among objects regs locks place l at found.0 found.1 found.2 in
    let least : AtMost found.1 (asked (request_of objects regs locks) found.0) = (request_is_least objects regs locks).enough found.0 found.1 among in
    not_true (can_grant h t (request_of objects regs locks)) (λ granted.
    let goes : AreCompatible found.1 (held h found.3.0 found.0) =
    compatible_below found.1 (asked (request_of objects regs locks) found.0) (held h found.3.0 found.0) least
    (can_grant-tells h t (request_of objects regs locks) granted found.3.0 found.0 found.3.1) in
    let clash = found.3.2 in
    let never : true ≡ false = sym goes ∙ clash in
    cc)

-- the asks of the locks from a place on
pub all_left : (objects : List Object) (regs : List Value) (request : Request) (locks : List Lock) (k : ℕ) (l : Lock) → k < length locks → l ≡ get_or locks k l
    → joined_all request (all_asks objects regs (drop k locks)) ≡ joined_all (joined_all request (asks_of objects regs l)) (all_asks objects regs (drop (k + 1) locks))
all_left objects regs request locks k l there is =
    let next : suc k ≡ k + 1 = omega arith in
    ap (λ ls. joined_all request (all_asks objects regs ls)) (drop-cons locks k l there)
    ∙ ap (λ x. joined_all request (asks_of objects regs x ++ all_asks objects regs (drop (suc k) locks))) (sym is)
    ∙ ap (λ n. joined_all request (asks_of objects regs l ++ all_asks objects regs (drop n locks))) next
    ∙ joined_all-append request (asks_of objects regs l) (all_asks objects regs (drop (k + 1) locks))

-- the asks of one lock more
more_asks : (objects : List Object) (regs : List Value) (ls : List Lock) (l : Lock) → all_asks objects regs (ls ++ l ∷ []) ≡ all_asks objects regs ls ++ asks_of objects regs l
more_asks objects regs [] l = append-nil (asks_of objects regs l)
more_asks objects regs (a ∷ ls) l =
    ap (λ (r : Request). asks_of objects regs a ++ r) (more_asks objects regs ls l)
    ∙ sym (append_assoc (asks_of objects regs a) (all_asks objects regs ls) (asks_of objects regs l))

pub request_more : (objects : List Object) (regs : List Value) (locks : List Lock) (k : ℕ) (l : Lock) → k < length locks → l ≡ get_or locks k l
    → request_of objects regs (take (k + 1) locks) ≡ joined_all (request_of objects regs (take k locks)) (asks_of objects regs l)
request_more objects regs locks k l there is =
    ap (request_of objects regs) (take_more locks k l there ∙ ap (λ x. take k locks ++ x ∷ []) (sym is))
    ∙ ap (joined_all []) (more_asks objects regs (take k locks) l)
    ∙ joined_all-append [] (all_asks objects regs (take k locks)) (asks_of objects regs l)
