-- What the forest wants of a request, entry by entry: it names each node once, asks no NL, asks of each node's parent too, and
-- names only nodes of classes that there are.
use Rattle.std.proofs.Common.{◌≡◌, ℕ, ◌<◌, Bool, true, false, cond, not, ◌&&◌, ◌||◌, List, [], ◌∷◌, ◌++◌, Option, None, Some, refl, sym, ap, ◌∙◌, subst, inl, inr, IsTrue}
use Rattle.std.specs.Prelude.{All}
use Rattle.std.proofs.lemmas.Bool.{not-true, and_parts, or_parts}
use Rattle.std.specs.Option.{option_map_or}
use Rattle.std.specs.List.{list_all}
use Rattle.std.proofs.lemmas.List.Elements.{All-nil, All-cons, All-from_recursion, recursion_from_All}
use Rattle.asl_code.specs.declared.value.Value.{Value}
use Rattle.asl_code.specs.declared.value.Cell.{Cell}
use Rattle.asl_code.specs.declared.value.Effect.{Effect}
use Rattle.asl_code.specs.declared.value.Effect.TheVariants.{Read, Write}
use Rattle.asl_code.specs.declared.lock.Lock.{Lock}
use Rattle.asl_code.specs.declared.lock.Lock.TheVariants as lock
use Rattle.asl_mode_lanes.specs.declared.mode.Mode.{Mode}
use Rattle.asl_mode_lanes.specs.declared.mode.Mode.TheVariants.{NL}
use Rattle.asl_mode_lanes.specs.Mode.{AtMost, is_at_most, join_of}
use Rattle.asl_mode_lanes.proofs.ModeLaws.{at_most_trans, join_left}
use Rattle.asl_lock_forest.specs.declared.node.Node.{Node}
use Rattle.asl_lock_forest.specs.Node.{same_node, parent_of, parent_mode, IsRooted, IsThere}
use Rattle.asl_lock_forest.specs.Holding.{Request, asked}
use Rattle.asl_lock_forest.specs.Request.{names, names_once, asks_modes, asks_parent_of, asks_parents, IsOfClasses}
use Rattle.asl_machine.specs.State.{Object, class_of}
use Rattle.asl_machine.specs.Access.{AreOfClasses}
use Rattle.asl_expression.specs.Expression.{cell_denoted}
use Rattle.asl_machine.specs.Request.{LockOfClass, IsAsk, asks_of, cell_asks, leaf_asks, all_asks, joined_with, joined_all, request_of, heap_of}
use Rattle.asl_machine.proofs.LeastRequests.{same_sym, same_self}
use Rattle.asl_machine.proofs.RootedRequests.{ask_either, request_is_rooted}

-- joining at a node changes of no other whether it is named
names_kept : (r : Request) (n : Node) (m : Mode) (x : Node) → same_node n x ≡ false → names (joined_with r n m) x ≡ names r x
names_kept [] n m x e = ap (λ b. b || false) e
names_kept (a ∷ rest) n m x e =
    elim (same_node a.0 n) as (λ p. names (cond p ((a.0, join_of a.1 m) ∷ rest) (a ∷ joined_with rest n m)) x ≡ names (a ∷ rest) x) [
      | true ↦ refl
      | false ↦ ap (λ b. same_node a.0 x || b) (names_kept rest n m x e)
    ]

-- joining names a node that was there, or one that was not
once_step : (p : Bool) (a : Node × Mode) (rest joined : Request) (w : Mode) → IsTrue (not (names rest a.0) && names_once rest) →
    (p ≡ false → names joined a.0 ≡ names rest a.0) → IsTrue (names_once joined) → IsTrue (names_once (cond p ((a.0, w) ∷ rest) (a ∷ joined)))
once_step true a rest joined w h k j = h
once_step false a rest joined w h k j = subst (λ b. IsTrue (not b && names_once joined)) (sym (k refl)) (both (not (names rest a.0)) (names_once rest) (names_once joined) h j)
  where
    both : (x y z : Bool) → IsTrue (x && y) → IsTrue z → IsTrue (x && z)
    both true y z h j = j
    both false y z h j = h

once_with : (r : Request) (n : Node) (m : Mode) → IsTrue (names_once r) → IsTrue (names_once (joined_with r n m))
once_with [] n m h = refl
once_with (a ∷ rest) n m h =
    once_step (same_node a.0 n) a rest (joined_with rest n m) (join_of a.1 m) h (λ e. names_kept rest n m a.0 (same_sym n a.0 ∙ e)) (once_with rest n m (and_parts _ _ h).1)

once_all : (asks r : Request) → IsTrue (names_once r) → IsTrue (names_once (joined_all r asks))
once_all [] r h = h
once_all (ask ∷ asks) r h = once_all asks (joined_with r ask.0 ask.1) (once_with r ask.0 ask.1 h)

-- the request names each node once
pub request_names_once : (objects : List Object) (regs : List Value) (locks : List Lock) → IsTrue (names_once (request_of objects regs locks))
request_names_once objects regs locks = once_all (all_asks objects regs locks) [] refl

-- what is joined with a mode other than NL is none
join_some : (a b : Mode) → IsTrue (not (is_at_most a NL)) → IsTrue (not (is_at_most (join_of a b) NL))
join_some a b h = off (is_at_most (join_of a b) NL) (is_at_most a NL) h (λ e. at_most_trans a (join_of a b) NL (join_left a b) e)
  where
    off : (x y : Bool) → IsTrue (not y) → (IsTrue x → IsTrue y) → IsTrue (not x)
    off false y h k = refl
    off true y h k = let e : y ≡ true = k refl in subst (λ b. IsTrue (not b)) e h

modes_step : (p : Bool) (a : Node × Mode) (rest joined : Request) (m : Mode) → IsTrue (not (is_at_most a.1 NL) && asks_modes rest) → IsTrue (asks_modes joined) →
    IsTrue (asks_modes (cond p ((a.0, join_of a.1 m) ∷ rest) (a ∷ joined)))
modes_step true a rest joined m h j = both _ _ (join_some a.1 m (and_parts _ _ h).0) (and_parts _ _ h).1
  where
    both : (x y : Bool) → IsTrue x → IsTrue y → IsTrue (x && y)
    both true y h k = k
    both false y h k = h
modes_step false a rest joined m h j = both _ _ (and_parts _ _ h).0 j
  where
    both : (x y : Bool) → IsTrue x → IsTrue y → IsTrue (x && y)
    both true y h k = k
    both false y h k = h

-- joining a mode other than NL leaves none NL
modes_with : (r : Request) (n : Node) (m : Mode) → IsTrue (not (is_at_most m NL)) → IsTrue (asks_modes r) → IsTrue (asks_modes (joined_with r n m))
modes_with [] n m k h = both (not (is_at_most m NL)) k
  where
    both : (x : Bool) → IsTrue x → IsTrue (x && true)
    both true h = refl
    both false h = h
modes_with (a ∷ rest) n m k h = modes_step (same_node a.0 n) a rest (joined_with rest n m) m h (modes_with rest n m k (and_parts _ _ h).1)

modes_all : (asks r : Request) → IsTrue (asks_modes asks) → IsTrue (asks_modes r) → IsTrue (asks_modes (joined_all r asks))
modes_all [] r k h = h
modes_all (ask ∷ asks) r k h = modes_all asks (joined_with r ask.0 ask.1) (and_parts _ _ k).1 (modes_with r ask.0 ask.1 (and_parts _ _ k).0 h)

modes-append : (xs ys : Request) → IsTrue (asks_modes xs) → IsTrue (asks_modes ys) → IsTrue (asks_modes (xs ++ ys))
modes-append [] ys h k = k
modes-append (x ∷ xs) ys h k = both _ _ _ h (modes-append xs ys (and_parts _ _ h).1 k)
  where
    both : (x y z : Bool) → IsTrue (x && y) → IsTrue z → IsTrue (x && z)
    both true y z h j = j
    both false y z h j = h

-- no kind of lock asks NL
modes_at : (cell : Cell) (effect : Effect) (class : Option ℕ) → IsTrue (asks_modes (option_map_or (leaf_asks cell effect) class []))
modes_at cell effect None = refl
modes_at cell Read (Some class) = refl
modes_at cell Write (Some class) = refl

modes_cell : (objects : List Object) (effect : Effect) (cell : Option Cell) → IsTrue (asks_modes (cell_asks objects effect cell))
modes_cell objects effect None = refl
modes_cell objects effect (Some cell) = modes_at cell effect (class_of objects cell.object)

modes_lock : (objects : List Object) (regs : List Value) (l : Lock) → IsTrue (asks_modes (asks_of objects regs l))
modes_lock objects regs (lock.Root Read) = refl
modes_lock objects regs (lock.Root Write) = refl
modes_lock objects regs (lock.Class class Read) = refl
modes_lock objects regs (lock.Class class Write) = refl
modes_lock objects regs (lock.Expr expr effect) = modes_cell objects effect (cell_denoted (heap_of objects) regs expr)

modes_locks : (objects : List Object) (regs : List Value) (locks : List Lock) → IsTrue (asks_modes (all_asks objects regs locks))
modes_locks objects regs [] = refl
modes_locks objects regs (l ∷ ls) = modes-append (asks_of objects regs l) (all_asks objects regs ls) (modes_lock objects regs l) (modes_locks objects regs ls)

-- the request asks no NL
pub request_asks_modes : (objects : List Object) (regs : List Value) (locks : List Lock) → IsTrue (asks_modes (request_of objects regs locks))
request_asks_modes objects regs locks = modes_all (all_asks objects regs locks) [] (modes_locks objects regs locks) refl

-- ---- parents again, entry by entry

-- each entry of the rest is what the whole asks at its node
EntriesOf : Request → Request → Type 0
EntriesOf whole [] = Unit {0}
EntriesOf whole (ask ∷ rest) = (asked whole ask.0 ≡ ask.1) × EntriesOf whole rest

-- an entry in front of another node changes what is asked at none of the rest
entries_later : (a : Node × Mode) (whole rest : Request) → names rest a.0 ≡ false → EntriesOf whole rest → EntriesOf (a ∷ whole) rest
unfolding EntriesOf
entries_later a whole [] e h = tt
entries_later a whole (x ∷ rest) e h = (
  ap (λ b. cond b a.1 (asked whole x.0)) (same_sym a.0 x.0 ∙ (or_parts (same_node x.0 a.0) (names rest a.0) e).0) ∙ h.0,
  entries_later a whole rest (or_parts (same_node x.0 a.0) (names rest a.0) e).1 h.1,
)

entries_own : (r : Request) → IsTrue (names_once r) → EntriesOf r r
unfolding EntriesOf
entries_own [] h = tt
entries_own (a ∷ rest) h = (
  ap (λ b. cond b a.1 (asked rest a.0)) (same_self a.0),
  entries_later a rest rest (not-true (names rest a.0) (and_parts _ _ h).0) (entries_own rest (and_parts _ _ h).1),
)

-- the test of one entry's parent
parent_of_entry : (whole : Request) (n : Node) (m : Mode) (p : Option Node) → IsRooted (asked whole) → parent_of n ≡ p → asked whole n ≡ m → IsTrue (asks_parent_of whole p m)
parent_of_entry whole n m None rooted e is = refl
parent_of_entry whole n m (Some p) rooted e is = subst (λ o. AtMost (parent_mode o) (asked whole p)) is (rooted n p e)

parents_of_entries : (whole rest : Request) → IsRooted (asked whole) → EntriesOf whole rest → IsTrue (list_all (λ ask. asks_parent_of whole (parent_of ask.0) ask.1) rest)
unfolding EntriesOf
parents_of_entries whole [] rooted h = refl
parents_of_entries whole (a ∷ rest) rooted h =
    both _ _ (parent_of_entry whole a.0 a.1 (parent_of a.0) rooted refl h.0) (parents_of_entries whole rest rooted h.1)
  where
    both : (x y : Bool) → IsTrue x → IsTrue y → IsTrue (x && y)
    both true y h k = k
    both false y h k = h

-- each node's parent is asked too
pub request_asks_parents : (objects : List Object) (regs : List Value) (locks : List Lock) → IsTrue (asks_parents (request_of objects regs locks))
request_asks_parents objects regs locks =
    let r = request_of objects regs locks in
    parents_of_entries r r (request_is_rooted objects regs locks) (entries_own r (request_names_once objects regs locks))

-- ---- classes

-- joining an ask of a node that there is keeps it so that all nodes are there
there_with : (classes : ℕ) (r : Request) (n : Node) (m : Mode) → IsThere classes n → IsOfClasses classes r → IsOfClasses classes (joined_with r n m)
there_with classes [] n m t h = All-cons (λ (ask : Node × Mode). IsThere classes ask.0) (n, m) [] t (All-nil (λ (ask : Node × Mode). IsThere classes ask.0))
there_with classes (a ∷ rest) n m t h =
    let P : Node × Mode → Type 0 = λ ask. IsThere classes ask.0 in
    let parts = recursion_from_All P (a ∷ rest) h in
    elim (same_node a.0 n) as (λ p. IsOfClasses classes (cond p ((a.0, join_of a.1 m) ∷ rest) (a ∷ joined_with rest n m))) [
      | true ↦ All-cons P (a.0, join_of a.1 m) rest parts.0 (All-from_recursion P rest parts.1)
      | false ↦ All-cons P a (joined_with rest n m) parts.0 (there_with classes rest n m t (All-from_recursion P rest parts.1))
    ]

there_all : (classes : ℕ) (asks r : Request) → ((n : Node) (m : Mode) → IsAsk asks n m → IsThere classes n) → IsOfClasses classes r → IsOfClasses classes (joined_all r asks)
there_all classes [] r k h = h
there_all classes (ask ∷ asks) r k h =
    there_all classes asks (joined_with r ask.0 ask.1) (λ n m i. k n m (inr i)) (there_with classes r ask.0 ask.1 (k ask.0 ask.1 (inl (refl, refl))) h)

-- each kind of lock asks nodes of classes that there are
there_leaf : (classes : ℕ) (cell : Cell) (effect : Effect) (class : Option ℕ) → ((c : ℕ) → class ≡ Some c → c < classes) →
    (n : Node) (m : Mode) → IsAsk (option_map_or (leaf_asks cell effect) class []) n m → IsThere classes n
there_leaf classes cell effect None k n m h = absurd h
there_leaf classes cell effect (Some class) k n m h =
    elim h [
      | inl e ↦ subst (IsThere classes) e.0 tt
      | inr i ↦ elim i [
        | inl e ↦ subst (IsThere classes) e.0 (k class refl)
        | inr j ↦ elim j [ inl e ↦ subst (IsThere classes) e.0 (k class refl) | inr l ↦ absurd l ]
      ]
    ]

there_cell : (classes : ℕ) (objects : List Object) (effect : Effect) (cell : Option Cell) → AreOfClasses classes objects →
    (n : Node) (m : Mode) → IsAsk (cell_asks objects effect cell) n m → IsThere classes n
there_cell classes objects effect None k n m h = absurd h
there_cell classes objects effect (Some cell) k n m h = there_leaf classes cell effect (class_of objects cell.object) (λ c e. k cell.object c e) n m h

there_lock : (classes : ℕ) (objects : List Object) (regs : List Value) (l : Lock) → LockOfClass classes l → AreOfClasses classes objects →
    (n : Node) (m : Mode) → IsAsk (asks_of objects regs l) n m → IsThere classes n
there_lock classes objects regs (lock.Root effect) f k n m h = elim h [ inl e ↦ subst (IsThere classes) e.0 tt | inr i ↦ absurd i ]
there_lock classes objects regs (lock.Class class effect) f k n m h =
    elim h [
      | inl e ↦ subst (IsThere classes) e.0 tt
      | inr i ↦ elim i [ inl e ↦ subst (IsThere classes) e.0 f | inr j ↦ absurd j ]
    ]
there_lock classes objects regs (lock.Expr expr effect) f k n m h = there_cell classes objects effect (cell_denoted (heap_of objects) regs expr) k n m h

there_locks : (classes : ℕ) (objects : List Object) (regs : List Value) (locks : List Lock) → All (LockOfClass classes) locks → AreOfClasses classes objects →
    (n : Node) (m : Mode) → IsAsk (all_asks objects regs locks) n m → IsThere classes n
there_locks classes objects regs [] f k n m h = absurd h
there_locks classes objects regs (l ∷ ls) f k n m h =
    let parts = recursion_from_All (LockOfClass classes) (l ∷ ls) f in
    elim (ask_either (asks_of objects regs l) (all_asks objects regs ls) n m h) [
      | inl i ↦ there_lock classes objects regs l parts.0 k n m i
      | inr i ↦ there_locks classes objects regs ls (All-from_recursion (LockOfClass classes) ls parts.1) k n m i
    ]

-- the request names only nodes of classes below the count
pub request_is_of_classes : (classes : ℕ) (objects : List Object) (regs : List Value) (locks : List Lock) → All (LockOfClass classes) locks → AreOfClasses classes objects →
    IsOfClasses classes (request_of objects regs locks)
request_is_of_classes classes objects regs locks f k =
    there_all classes (all_asks objects regs locks) [] (there_locks classes objects regs locks f k) (All-nil (λ (ask : Node × Mode). IsThere classes ask.0))
