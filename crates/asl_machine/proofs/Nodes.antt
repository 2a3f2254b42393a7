-- The nodes that a request names are there, and stay there; so do those that are held.
use Rattle.std.proofs.Common.{◌≡◌, ◌≢◌, ℕ, ◌<◌, ◌⊎◌, List, [], ◌∷◌, Option, Some, None, IfOk, slice_get, refl, ap, ◌∙◌, subst, inl, inr}
use Rattle.std.specs.Prelude.{All, IsSome, option_and_then}
use Rattle.std.specs.Option.{option_map_or}
use Rattle.std.proofs.lemmas.Bool.Decides.{eqb_tells}
use Rattle.std.proofs.lemmas.List.Elements.{All-from_recursion, recursion_from_All}
use Rattle.asl_code.specs.declared.image.Image.{Image}
use Rattle.asl_code.specs.declared.lock.Base.{Base}
use Rattle.asl_code.specs.declared.lock.Base.TheVariants.{Reg, Global}
use Rattle.asl_code.specs.declared.lock.Lock.{Lock}
use Rattle.asl_code.specs.declared.lock.Lock.TheVariants as lock
use Rattle.asl_code.specs.declared.path.Op.{Op}
use Rattle.asl_code.specs.declared.path.Op.TheVariants.{Deref, Off}
use Rattle.asl_code.specs.declared.value.Value.{Value}
use Rattle.asl_code.specs.declared.value.Value.TheVariants.{Int, Null, Addr}
use Rattle.asl_code.specs.declared.value.Cell.{Cell}
use Rattle.asl_code.specs.declared.value.Effect.{Effect}
use Rattle.asl_code.specs.Fits.{HasBase, HasLock}
use Rattle.asl_mode_lanes.specs.declared.mode.Mode.{Mode}
use Rattle.asl_mode_lanes.specs.declared.mode.Mode.TheVariants.{NL}
use Rattle.asl_mode_lanes.proofs.ModeLaws.{at_most-NL}
use Rattle.asl_lock_forest.specs.declared.node.Node.{Node}
use Rattle.asl_lock_forest.specs.declared.node.Node.TheVariants.{Root, Class, Leaf}
use Rattle.asl_lock_forest.specs.Holding.{Holding, Request, HoldsNothing, asked, held, grant, release}
use Rattle.asl_lock_forest.proofs.Laws.{tell_nodes, held_grant_own, held_grant_other, held_release_own, held_release_other}
use Rattle.asl_machine.specs.State.{Object, cell_at, class_of}
use Rattle.asl_machine.specs.Access.{Points, AllPoint, AreOfClasses}
use Rattle.asl_expression.specs.Expression.{pointed, base_cell, walked, path_cell, cell_denoted}
use Rattle.asl_machine.specs.Request.{heap_of, leaf_asks, cell_asks, asks_of, all_asks, joined_all, request_of, IsAsk}
use Rattle.asl_machine.specs.StepFunction.{address_or_bounds}
use Rattle.asl_machine.specs.WellFormed.{AreWellFormed}
use Rattle.asl_machine.specs.Nodes.{IsLeaf, IsNode}
use Rattle.asl_machine.proofs.WellFormedHeaps.{global_points, moved_points}
use Rattle.asl_machine.proofs.LeastRequests.{below_all}
use Rattle.asl_machine.proofs.RootedRequests.{ask_either}

-- ---- the cell that an expression denotes is there

-- if there is a cell, it is one of the objects'
abbrev pub Denotes : List Object → Option Cell → Type 0
Denotes objects None = Unit {0}
Denotes objects (Some cell) = IsSome (cell_at objects cell)

pointed_there : (objects : List Object) (v : Value) → Points objects v → Denotes objects (pointed v)
pointed_there objects (Int x) p = tt
pointed_there objects Null p = tt
pointed_there objects (Addr o i) p = p

read_there : (objects : List Object) (found : Option Value) → ((v : Value) → found ≡ Some v → Points objects v) → Denotes objects (option_and_then pointed found)
read_there objects None all = tt
read_there objects (Some v) all = pointed_there objects v (all v refl)

-- where an evaluation begins is there, if it begins anywhere
pub base_there : (image : Image) (objects : List Object) (regs : List Value) (b : Base) → AreWellFormed image objects → AllPoint objects regs → HasBase image b → Denotes objects (base_cell regs b)
base_there image objects regs (Reg r) sound all has = read_there objects (slice_get regs r) (all r)
base_there image objects regs (Global g) sound all has = global_points image objects g sound has

bounds_there : (objects : List Object) (x : Option Cell) → IfOk (address_or_bounds x) (Points objects) → Denotes objects x
bounds_there objects None h = tt
bounds_there objects (Some c) h = h

after_there : (image : Image) (objects : List Object) (op : Op) (start : Option Cell) → AreWellFormed image objects → Denotes objects (option_and_then (walked (heap_of objects) op) start)
after_there image objects op None sound = tt
after_there image objects Deref (Some cell) sound = read_there objects (cell_at objects cell) (sound.points cell)
after_there image objects (Off places) (Some cell) sound = bounds_there objects _ (moved_points objects places (Addr cell.object cell.offset))

-- a path that begins at a cell that is there leads to one that is there, if it leads anywhere
pub path_there : (image : Image) (objects : List Object) (ops : List Op) (start : Option Cell) → AreWellFormed image objects → Denotes objects start → Denotes objects (path_cell (heap_of objects) ops start)
path_there image objects [] start sound h = h
path_there image objects (op ∷ ops) start sound h =
    path_there image objects ops (option_and_then (walked (heap_of objects) op) start) sound (after_there image objects op start sound)

-- ---- what a request asks for is there

node_leaf : (classes : ℕ) (objects : List Object) (cell : Cell) (effect : Effect) (class : Option ℕ) → class_of objects cell.object ≡ class → ((c : ℕ) → class ≡ Some c → c < classes) →
    IsSome (cell_at objects cell) → (n : Node) (m : Mode) → IsAsk (option_map_or (leaf_asks cell effect) class []) n m → IsNode classes objects n
node_leaf classes objects cell effect None is k there n m h = absurd h
node_leaf classes objects cell effect (Some class) is k there n m h =
    elim h [
      | inl e ↦ subst (IsNode classes objects) e.0 tt
      | inr i ↦ elim i [
        | inl e ↦ subst (IsNode classes objects) e.0 (k class refl)
        | inr j ↦ elim j [
          | inl e ↦ subst (IsNode classes objects) e.0 (let leaf : IsLeaf objects cell class = record { classed = is; there = there } in leaf)
          | inr l ↦ absurd l
        ]
      ]
    ]

node_cell : (classes : ℕ) (objects : List Object) (effect : Effect) (cell : Option Cell) → AreOfClasses classes objects → Denotes objects cell →
    (n : Node) (m : Mode) → IsAsk (cell_asks objects effect cell) n m → IsNode classes objects n
node_cell classes objects effect None k there n m h = absurd h
node_cell classes objects effect (Some cell) k there n m h = node_leaf classes objects cell effect (class_of objects cell.object) refl (λ c e. k cell.object c e) there n m h

node_lock : (image : Image) (objects : List Object) (regs : List Value) (l : Lock) → AreWellFormed image objects → AllPoint objects regs → HasLock image l →
    (n : Node) (m : Mode) → IsAsk (asks_of objects regs l) n m → IsNode image.classes objects n
node_lock image objects regs (lock.Root effect) sound all has n m h = elim h [ inl e ↦ subst (IsNode image.classes objects) e.0 tt | inr i ↦ absurd i ]
node_lock image objects regs (lock.Class class effect) sound all has n m h =
    elim h [
      | inl e ↦ subst (IsNode image.classes objects) e.0 tt
      | inr i ↦ elim i [ inl e ↦ subst (IsNode image.classes objects) e.0 has | inr j ↦ absurd j ]
    ]
node_lock image objects regs (lock.Expr expr effect) sound all has n m h =
    node_cell image.classes objects effect (cell_denoted (heap_of objects) regs expr) sound.classes
    (path_there image objects expr.path (base_cell regs expr.base) sound (base_there image objects regs expr.base sound all has)) n m h

node_locks : (image : Image) (objects : List Object) (regs : List Value) (locks : List Lock) → AreWellFormed image objects → AllPoint objects regs → All (HasLock image) locks →
    (n : Node) (m : Mode) → IsAsk (all_asks objects regs locks) n m → IsNode image.classes objects n
node_locks image objects regs [] sound all has n m h = absurd h
node_locks image objects regs (l ∷ ls) sound all has n m h =
    let parts = recursion_from_All (HasLock image) (l ∷ ls) has in
    elim (ask_either (asks_of objects regs l) (all_asks objects regs ls) n m h) [
      | inl i ↦ node_lock image objects regs l sound all parts.0 n m i
      | inr i ↦ node_locks image objects regs ls sound all (All-from_recursion (HasLock image) ls parts.1) n m i
    ]

-- some ask is at the node, or none is
ask_there : (asks : Request) (n : Node) → ((m : Mode) × IsAsk asks n m) ⊎ ((m : Mode) → IsAsk asks n m → ⊥)
ask_there [] n = inr (λ m h. h)
ask_there (ask ∷ asks) n =
    elim (tell_nodes ask.0 n) [
      | inl same ↦ inl (ask.1, inl (same.1, refl))
      | inr other ↦ elim (ask_there asks n) [
        | inl found ↦ inl (found.0, inr found.1)
        | inr none ↦ inr (λ m h. elim h [ inl e ↦ other.1 e.0 | inr later ↦ none m later ])
      ]
    ]

-- a mode is asked only where some ask is
asked_there : (asks : Request) (n : Node) → asked (joined_all [] asks) n ≢ NL → (m : Mode) × IsAsk asks n m
asked_there asks n ne =
    elim (ask_there asks n) [
      | inl found ↦ found
      | inr none ↦ absurd (ne (at_most-NL _ (below_all asks [] n NL refl (λ m h. absurd (none m h)))))
    ]

-- a node that the request of a list asks for is there
pub request_there : (image : Image) (objects : List Object) (regs : List Value) (locks : List Lock) → AreWellFormed image objects → AllPoint objects regs → All (HasLock image) locks →
    (n : Node) → asked (request_of objects regs locks) n ≢ NL → IsNode image.classes objects n
request_there image objects regs locks sound all has n ne =
    let found = asked_there (all_asks objects regs locks) n ne in node_locks image objects regs locks sound all has n found.0 found.1

-- ---- what is there stays there

-- a node that is there is there over objects of which the old ones keep their classes and their cells
pub node_kept : (classes : ℕ) (objects more : List Object) → ((n c : ℕ) → class_of objects n ≡ Some c → class_of more n ≡ Some c) →
    ((v : Value) → Points objects v → Points more v) → (n : Node) → IsNode classes objects n → IsNode classes more n
node_kept classes objects more f g Root h = tt
node_kept classes objects more f g (Class class) h = h
node_kept classes objects more f g (Leaf cell class) h = record { classed = f cell.object class h.classed; there = g (Addr cell.object cell.offset) h.there }

-- who holds a node after a grant held it, or asked for it
pub granted_before : (h : Holding) (t : ℕ) (request : Request) → HoldsNothing h t → (u : ℕ) (n : Node) → held (grant h t request) u n ≢ NL → (held h u n ≢ NL) ⊎ (asked request n ≢ NL)
granted_before h t request none u n ne =
    elim (eqb_tells u t) [
      | inl same ↦ inr (λ z. ne (ap (λ v. held (grant h t request) v n) same.1 ∙ held_grant_own h t request n none ∙ z))
      | inr other ↦ inl (λ z. ne (held_grant_other h t request u n other.1 ∙ z))
    ]

-- who holds a node after a release held it
pub released_before : (h : Holding) (t u : ℕ) (n : Node) → held (release h t) u n ≢ NL → held h u n ≢ NL
released_before h t u n ne z =
    elim (eqb_tells u t) [
      | inl same ↦ ne (ap (λ v. held (release h t) v n) same.1 ∙ held_release_own h t n)
      | inr other ↦ ne (held_release_other h t u n other.1 ∙ z)
    ]
