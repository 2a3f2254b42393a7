-- When a thread has no line of a clash.
use Rattle.std.proofs.Common.{◌≡◌, ◌≢◌, ℕ, zero, suc, ◌+◌, ◌<◌, ◌≤◌, ◌||◌, ◌++◌, ◌∷◌, Bool, true, false, cond, List, [], Option, None, Some, length, slice_get, refl, sym, ap, ap₂, subst, ◌∙◌, inl, inr, arith, eq-eqb, ne_eqb}
use Rattle.std.specs.Prelude.{codes, IsSome, option_and_then, option_map}
use Rattle.std.specs.Option.{option_map_or}
use Rattle.std.proofs.lemmas.Bool.{cases_eq}
use Rattle.std.proofs.lemmas.Option.{slice_get_within}
use Rattle.asl_code.specs.declared.value.Value.{Value}
use Rattle.asl_code.specs.declared.value.Cell.{Cell}
use Rattle.asl_mode_lanes.specs.declared.mode.Mode.{Mode}
use Rattle.asl_mode_lanes.specs.declared.mode.Mode.TheVariants.{NL, IS, IX, S, SIX, X}
use Rattle.asl_mode_lanes.specs.Mode.{is_compatible}
use Rattle.asl_lock_forest.specs.declared.node.Node.{Node}
use Rattle.asl_lock_forest.specs.declared.node.Node.TheVariants.{Root, Class, Leaf}
use Rattle.asl_lock_forest.specs.Holding.{Request, asked, held, CanGrant}
use Rattle.asl_machine.specs.Nodes.{IsNode}
use Rattle.asl_machine.specs.State.{Object, State, class_of, size_of}
use Rattle.asl_show.specs.Lines.{lines_from}
use Rattle.asl_show.specs.Objects.{cell_count, cell_of}
use Rattle.asl_show.specs.Nodes.{mode_name, clash_line, clash_at, clashes_at, clash_lines, leaves_of, leaf_lines, node_lines}

-- ---- lines

parts_empty : (xs ys : List ℕ) → xs ++ ys ≡ [] → (xs ≡ []) × (ys ≡ [])
parts_empty [] ys e = (refl, e)
parts_empty (x ∷ xs) ys e = cc

lines_none : (line : ℕ → List ℕ) (first count : ℕ) → ((k : ℕ) → line k ≡ []) → lines_from line first count ≡ []
unfolding lines_from
lines_none line first zero none = refl
lines_none line first (suc count) none = ap₂ (λ (xs ys : List ℕ). xs ++ ys) (none first) (lines_none line (suc first) count none)

lines_each : (line : ℕ → List ℕ) (first count k : ℕ) → first ≤ k → k < first + count → lines_from line first count ≡ [] → line k ≡ []
unfolding lines_from
lines_each line first zero k low high e = absurd (omega (arith, low, high))
lines_each line first (suc count) k low high e =
    let parts = parts_empty (line first) (lines_from line (suc first) count) e in
    elim (cases_eq first k) [
      | inl same ↦ subst (λ (n : ℕ). line n ≡ []) same parts.0
      | inr other ↦ lines_each line (suc first) count k (omega (arith, low, other)) (omega (arith, high)) parts.1
    ]

-- ---- a clash at a node

nothing_goes : (mode : Mode) → is_compatible mode NL ≡ true
nothing_goes NL = refl
nothing_goes IS = refl
nothing_goes IX = refl
nothing_goes S = refl
nothing_goes SIX = refl
nothing_goes X = refl

true_not_false : (b : Bool) → b ≡ true → b ≡ false → ⊥
true_not_false b p q = let no : true ≡ false = sym p ∙ q in cc

named_line : (t : ℕ) (node : Node) (name : List ℕ) (u : ℕ) (mode m : Mode) → is_compatible mode m ≡ false → option_map_or (clash_line t node name u) (mode_name m) [] ≡ [] → ⊥
named_line t node name u mode NL clash e = true_not_false (is_compatible mode NL) (nothing_goes mode) clash
named_line t node name u mode IS clash e = cc
named_line t node name u mode IX clash e = cc
named_line t node name u mode S clash e = cc
named_line t node name u mode SIX clash e = cc
named_line t node name u mode X clash e = cc

clash_not_empty : (s : State) (t : ℕ) (node : Node) (mode : Mode) (name : List ℕ) (u : ℕ) → u ≢ t → is_compatible mode (held s.holding u node) ≡ false
    → clash_at s t node mode name u ≡ [] → ⊥
clash_not_empty s t node mode name u ne clash e =
    let line = option_map_or (clash_line t node name u) (mode_name (held s.holding u node)) [] in
    let is : clash_at s t node mode name u ≡ line = ap₂ (λ (a b : Bool). cond (a || b) [] line) (ne_eqb u t ne) clash in
    named_line t node name u mode (held s.holding u node) clash (sym is ∙ e)

asked_lines : (s : State) (t : ℕ) (node : Node) (m : Mode) (u : ℕ) → u ≢ t → u < length s.threads → is_compatible m (held s.holding u node) ≡ false
    → option_map_or (clashes_at s t node m) (mode_name m) [] ≡ [] → ⊥
asked_lines s t node NL u ne lt clash e = cc
asked_lines s t node IS u ne lt clash e = clash_not_empty s t node IS (codes "IS") u ne clash (lines_each (clash_at s t node IS (codes "IS")) 0 (length s.threads) u (omega arith) (omega (arith, lt)) e)
asked_lines s t node IX u ne lt clash e = clash_not_empty s t node IX (codes "IX") u ne clash (lines_each (clash_at s t node IX (codes "IX")) 0 (length s.threads) u (omega arith) (omega (arith, lt)) e)
asked_lines s t node S u ne lt clash e = clash_not_empty s t node S (codes "S") u ne clash (lines_each (clash_at s t node S (codes "S")) 0 (length s.threads) u (omega arith) (omega (arith, lt)) e)
asked_lines s t node SIX u ne lt clash e = clash_not_empty s t node SIX (codes "SIX") u ne clash (lines_each (clash_at s t node SIX (codes "SIX")) 0 (length s.threads) u (omega arith) (omega (arith, lt)) e)
asked_lines s t node X u ne lt clash e = clash_not_empty s t node X (codes "X") u ne clash (lines_each (clash_at s t node X (codes "X")) 0 (length s.threads) u (omega arith) (omega (arith, lt)) e)

-- where nobody is in the way at the node, it has no line
free_lines : (s : State) (t : ℕ) (node : Node) (m : Mode) → ((u : ℕ) → u ≢ t → is_compatible m (held s.holding u node) ≡ true)
    → option_map_or (clashes_at s t node m) (mode_name m) [] ≡ []
free_lines s t node m free = named (mode_name m)
  where
    one : (name : List ℕ) (u : ℕ) → clash_at s t node m name u ≡ []
    one name u =
        let line = option_map_or (clash_line t node name u) (mode_name (held s.holding u node)) [] in
        elim (cases_eq u t) [
          | inl same ↦ ap (λ (b : Bool). cond (b || is_compatible m (held s.holding u node)) [] line) (eq-eqb u t same)
          | inr other ↦ ap₂ (λ (a b : Bool). cond (a || b) [] line) (ne_eqb u t other) (free u other)
        ]

    named : (o : Option (List ℕ)) → option_map_or (clashes_at s t node m) o [] ≡ []
    named None = refl
    named (Some name) = lines_none (clash_at s t node m name) 0 (length s.threads) (one name)

-- ---- all nodes

nothing_there : false ≡ true → ⊥
nothing_there e = cc

-- where the lines of all nodes are none, each node that is there has none
node_empty : (classes : ℕ) (s : State) (line : Node → List ℕ) (node : Node) → IsNode classes s.objects node → node_lines classes s line ≡ [] → line node ≡ []
node_empty classes s line Root there e = (parts_empty (line Root) (lines_from (λ class. line (Class class)) 0 classes ++ lines_from (leaf_lines s line) 0 (length s.objects)) e).0
node_empty classes s line (Class class) there e =
    let rest = (parts_empty (line Root) (lines_from (λ c. line (Class c)) 0 classes ++ lines_from (leaf_lines s line) 0 (length s.objects)) e).1 in
    let lines = (parts_empty (lines_from (λ c. line (Class c)) 0 classes) (lines_from (leaf_lines s line) 0 (length s.objects)) rest).0 in
    lines_each (λ c. line (Class c)) 0 classes class (omega arith) (omega (arith, there)) lines
node_empty classes s line (Leaf cell class) there e =
    let rest = (parts_empty (line Root) (lines_from (λ c. line (Class c)) 0 classes ++ lines_from (leaf_lines s line) 0 (length s.objects)) e).1 in
    let lines = (parts_empty (lines_from (λ c. line (Class c)) 0 classes) (lines_from (leaf_lines s line) 0 (length s.objects)) rest).1 in
    let within = cell_within s.objects cell there.there in
    let own = lines_each (leaf_lines s line) 0 (length s.objects) cell.object (omega arith) (omega (arith, within.0)) lines in
    let leaves : leaves_of s line cell.object class ≡ [] = sym (ap (λ (o : Option ℕ). option_map_or (leaves_of s line cell.object) o []) there.classed) ∙ own in
    lines_each (λ i. line (Leaf (cell_of cell.object i) class)) 0 (cell_count s cell.object) cell.offset (omega arith) (omega (arith, within.1)) leaves
  where
    some_within : (cells : List Value) (offset : ℕ) (o : Option Value) → slice_get cells offset ≡ o → IsSome o → offset < length cells
    some_within cells offset None at h = absurd (nothing_there h)
    some_within cells offset (Some value) at h = slice_get_within cells offset value at

    sized : (o : Option Object) (offset : ℕ) → IsSome (option_and_then (λ (object : Object). slice_get object.cells offset) o)
        → offset < option_map_or (λ size. size) (option_map (λ (object : Object). length object.cells) o) 0
    sized None offset h = absurd (nothing_there h)
    sized (Some object) offset h = some_within object.cells offset (slice_get object.cells offset) refl h

    object_within : (objects : List Object) (number offset : ℕ) (o : Option Object) → slice_get objects number ≡ o
        → IsSome (option_and_then (λ (object : Object). slice_get object.cells offset) o) → number < length objects
    object_within objects number offset None at h = absurd (nothing_there h)
    object_within objects number offset (Some object) at h = slice_get_within objects number object at

    cell_within : (objects : List Object) (cell : Cell) → IsSome (option_and_then (λ (object : Object). slice_get object.cells cell.offset) (slice_get objects cell.object))
        → (cell.object < length objects) × (cell.offset < option_map_or (λ size. size) (size_of objects cell.object) 0)
    cell_within objects cell h = (object_within objects cell.object cell.offset (slice_get objects cell.object) refl h, sized (slice_get objects cell.object) cell.offset h)

-- where each node has none, all nodes have none
nodes_empty : (classes : ℕ) (s : State) (line : Node → List ℕ) → ((node : Node) → line node ≡ []) → node_lines classes s line ≡ []
nodes_empty classes s line none =
    let leaves : (o : ℕ) → leaf_lines s line o ≡ [] = λ o. of_class o (class_of s.objects o) in
    ap₂ (λ (xs ys : List ℕ). xs ++ ys) (none Root)
    (ap₂ (λ (xs ys : List ℕ). xs ++ ys) (lines_none (λ class. line (Class class)) 0 classes (λ class. none (Class class))) (lines_none (leaf_lines s line) 0 (length s.objects) leaves))
  where
    of_class : (o : ℕ) (c : Option ℕ) → option_map_or (leaves_of s line o) c [] ≡ []
    of_class o None = refl
    of_class o (Some class) = lines_none (λ i. line (Leaf (cell_of o i) class)) 0 (cell_count s o) (λ i. none (Leaf (cell_of o i) class))

-- ---- the clashes

-- where all that is asked can be granted, no node has a clash
pub granted_empty : (classes : ℕ) (s : State) (t : ℕ) (request : Request) → CanGrant s.holding t request → node_lines classes s (clash_lines s t request) ≡ []
granted_empty classes s t request can =
    nodes_empty classes s (clash_lines s t request) (λ node. free_lines s t node (asked request node) (λ u ne. can u node ne))

-- somebody who is in the way at a node that is there has a line
pub refused_not_empty : (classes : ℕ) (s : State) (t : ℕ) (request : Request) (u : ℕ) (node : Node) → u ≢ t → u < length s.threads → IsNode classes s.objects node
    → is_compatible (asked request node) (held s.holding u node) ≡ false → node_lines classes s (clash_lines s t request) ≡ [] → ⊥
refused_not_empty classes s t request u node ne lt there clash e =
    asked_lines s t node (asked request node) u ne lt clash (node_empty classes s (clash_lines s t request) node there e)

-- a node where somebody is in the way is held
pub clash_is_held : (mode m : Mode) → is_compatible mode m ≡ false → m ≢ NL
clash_is_held mode m clash e = true_not_false (is_compatible mode m) (ap (is_compatible mode) e ∙ nothing_goes mode) clash
