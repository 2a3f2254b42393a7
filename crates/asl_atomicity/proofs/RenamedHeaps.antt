-- What other numbers for objects leave as it is in the objects: their cells, sizes and classes, what a section's locks ask for,
-- and which cells are protected.
use Rattle.std.proofs.Common.{◌≡◌, ℕ, ◌+◌, ◌<◌, ◌++◌, ◌&&◌, ◌||◌, Bool, true, false, List, [], ◌∷◌, Option, Some, None, length, slice_get, refl, ap, ap₂, sym, ◌∙◌}
use Rattle.std.specs.Prelude.{if◌then◌else◌, map as each, option_map, option_and_then, nat_lt}
use Rattle.std.specs.Option.{option_map_or}
use Rattle.std.proofs.lemmas.Option.{slice_get-map}
use Rattle.std.proofs.lemmas.List.{map-append, length-map}
use Rattle.asl_code.specs.declared.value.Value.{Value}
use Rattle.asl_code.specs.declared.value.Cell.{Cell}
use Rattle.asl_code.specs.declared.value.Effect.{Effect}
use Rattle.asl_code.specs.declared.lock.Base.{Base}
use Rattle.asl_code.specs.declared.lock.Base.TheVariants.{Reg, Global}
use Rattle.asl_code.specs.declared.lock.Lock.{Lock}
use Rattle.asl_code.specs.declared.lock.Lock.TheVariants as lock
use Rattle.asl_code.specs.declared.path.Op.{Op}
use Rattle.asl_code.specs.declared.path.Op.TheVariants.{Deref, Off}
use Rattle.asl_mode_lanes.specs.declared.mode.Mode.{Mode}
use Rattle.asl_lock_forest.specs.declared.node.Node.{Node}
use Rattle.asl_lock_forest.specs.Holding.{Holding}
use Rattle.asl_expression.specs.Expression.{cell_of, pointed, base_cell, moved, walked, path_cell, cell_denoted}
use Rattle.asl_machine.specs.State.{Object, cell_at, size_of, class_of}
use Rattle.asl_machine.specs.Request.{heap_of, leaf_asks, cell_asks, asks_of, all_asks, joined_all, request_of}
use Rattle.asl_machine.specs.Cover.{cover, allows}
use Rattle.asl_machine.specs.Access.{is_protected}
use Rattle.asl_atomicity.specs.Renamed.{Renaming, value_by, cell_by, node_by, object_by}
use Rattle.asl_atomicity.proofs.Renaming.{request_by, ObjectsBy, HoldingBy, HasGlobals, pointed_by, fresh_by, joined_all_by, covered_by}

module _ (p : Renaming) where
  -- ---- objects
  module _ (one other : List Object) (same : ObjectsBy p.new one other) where
    pub cell_at_by : (c : Cell) → cell_at other (cell_by p.new c) ≡ option_map (value_by p.new) (cell_at one c)
    cell_at_by c = ap (option_and_then (λ (o : Object). slice_get o.cells c.offset)) (same c.object) ∙ by_option (slice_get one c.object)
      where
        by_option : (o : Option Object) → option_and_then (λ (q : Object). slice_get q.cells c.offset) (option_map (object_by p.new) o) ≡ option_map (value_by p.new) (option_and_then (λ (q : Object). slice_get q.cells c.offset) o)
        by_option None = refl
        by_option (Some q) = slice_get-map (value_by p.new) q.cells c.offset

    pub size_of_by : (n : ℕ) → size_of other (p.new n) ≡ size_of one n
    size_of_by n = ap (option_map (λ (o : Object). length o.cells)) (same n) ∙ by_option (slice_get one n)
      where
        by_option : (o : Option Object) → option_map (λ (q : Object). length q.cells) (option_map (object_by p.new) o) ≡ option_map (λ (q : Object). length q.cells) o
        by_option None = refl
        by_option (Some q) = ap Some (length-map q.cells (value_by p.new))

    pub class_of_by : (n : ℕ) → class_of other (p.new n) ≡ class_of one n
    class_of_by n = ap (option_map (λ (o : Object). o.class)) (same n) ∙ by_option (slice_get one n)
      where
        by_option : (o : Option Object) → option_map (λ (q : Object). q.class) (option_map (object_by p.new) o) ≡ option_map (λ (q : Object). q.class) o
        by_option None = refl
        by_option (Some q) = refl

    pub moved_by : (places : ℕ) (c : Cell) → moved (heap_of other) places (cell_by p.new c) ≡ option_map (cell_by p.new) (moved (heap_of one) places c)
    moved_by places c = ap (option_and_then (λ size. if nat_lt (c.offset + places) size then Some (cell_of (p.new c.object) (c.offset + places)) else None)) (size_of_by c.object) ∙ by_option (size_of one c.object)
      where
        by_test : (b : Bool) → (if b then Some (cell_of (p.new c.object) (c.offset + places)) else None) ≡ option_map (cell_by p.new) (if b then Some (cell_of c.object (c.offset + places)) else None)
        by_test true = refl
        by_test false = refl

        by_option : (o : Option ℕ) → option_and_then (λ size. if nat_lt (c.offset + places) size then Some (cell_of (p.new c.object) (c.offset + places)) else None) o
            ≡ option_map (cell_by p.new) (option_and_then (λ size. if nat_lt (c.offset + places) size then Some (cell_of c.object (c.offset + places)) else None) o)
        by_option None = refl
        by_option (Some size) = by_test (nat_lt (c.offset + places) size)

    walked_by : (op : Op) (o : Option Cell) → option_and_then (walked (heap_of other) op) (option_map (cell_by p.new) o) ≡ option_map (cell_by p.new) (option_and_then (walked (heap_of one) op) o)
    walked_by op None = refl
    walked_by (Off places) (Some c) = moved_by places c
    walked_by Deref (Some c) = ap (option_and_then pointed) (cell_at_by c) ∙ by_option (cell_at one c)
      where
        by_option : (o : Option Value) → option_and_then pointed (option_map (value_by p.new) o) ≡ option_map (cell_by p.new) (option_and_then pointed o)
        by_option None = refl
        by_option (Some v) = pointed_by p.new v

    path_cell_by : (ops : List Op) (o : Option Cell) → path_cell (heap_of other) ops (option_map (cell_by p.new) o) ≡ option_map (cell_by p.new) (path_cell (heap_of one) ops o)
    path_cell_by [] o = refl
    path_cell_by (op ∷ ops) o = ap (path_cell (heap_of other) ops) (walked_by op o) ∙ path_cell_by ops (option_and_then (walked (heap_of one) op) o)

    cell_asks_by : (effect : Effect) (o : Option Cell) → cell_asks other effect (option_map (cell_by p.new) o) ≡ request_by p.new (cell_asks one effect o)
    cell_asks_by effect None = refl
    cell_asks_by effect (Some c) = ap (λ z. option_map_or (leaf_asks (cell_by p.new c) effect) z []) (class_of_by c.object) ∙ by_option (class_of one c.object)
      where
        by_option : (o : Option ℕ) → option_map_or (leaf_asks (cell_by p.new c) effect) o [] ≡ request_by p.new (option_map_or (leaf_asks c effect) o [])
        by_option None = refl
        by_option (Some class) = refl

    module _ (globals : ℕ) (fixed : (n : ℕ) → n < globals → p.new n ≡ n) (regs : List Value) where
      base_by : (b : Base) → ((g : ℕ) → b ≡ Global g → g < globals) → base_cell (each (value_by p.new) regs) b ≡ option_map (cell_by p.new) (base_cell regs b)
      base_by (Reg r) there = ap (option_and_then pointed) (slice_get-map (value_by p.new) regs r) ∙ by_option (slice_get regs r)
        where
          by_option : (o : Option Value) → option_and_then pointed (option_map (value_by p.new) o) ≡ option_map (cell_by p.new) (option_and_then pointed o)
          by_option None = refl
          by_option (Some v) = pointed_by p.new v
      base_by (Global g) there = ap (λ z. Some (cell_of z 0)) (sym (fixed g (there g refl)))

      all_asks_by : (ls : List Lock) → HasGlobals globals ls → all_asks other (each (value_by p.new) regs) ls ≡ request_by p.new (all_asks one regs ls)
      all_asks_by [] there = refl
      all_asks_by (lock.Root effect ∷ ls) there =
          ap (λ z. asks_of one regs (lock.Root effect) ++ z) (all_asks_by ls there)
      all_asks_by (lock.Class class effect ∷ ls) there =
          ap (λ z. asks_of one regs (lock.Class class effect) ++ z) (all_asks_by ls there)
      all_asks_by (lock.Expr e effect ∷ ls) there =
          ap (λ z. cell_asks other effect (path_cell (heap_of other) e.path z) ++ all_asks other (each (value_by p.new) regs) ls) (base_by e.base there.0)
          ∙ ap (λ z. cell_asks other effect z ++ all_asks other (each (value_by p.new) regs) ls) (path_cell_by e.path (base_cell regs e.base))
          ∙ ap (λ z. z ++ all_asks other (each (value_by p.new) regs) ls) (cell_asks_by effect (cell_denoted (heap_of one) regs e))
          ∙ ap (λ z. request_by p.new (asks_of one regs (lock.Expr e effect)) ++ z) (all_asks_by ls there.1)
          ∙ sym (map-append (λ (ask : Node × Mode). (node_by p.new ask.0, ask.1)) (asks_of one regs (lock.Expr e effect)) (all_asks one regs ls))

      pub request_of_by : (ls : List Lock) → HasGlobals globals ls → request_of other (each (value_by p.new) regs) ls ≡ request_by p.new (request_of one regs ls)
      request_of_by ls there = ap (joined_all []) (all_asks_by ls there) ∙ joined_all_by p (all_asks one regs ls) []

    pub protected_by : (h g : Holding) → HoldingBy p.new h g → (fresh : List ℕ) (t depth : ℕ) (effect : Effect) (c : Cell) → is_protected (cover g (each p.new fresh)) other t depth effect (cell_by p.new c) ≡ is_protected (cover h fresh) one t depth effect c
    protected_by h g holds fresh t depth effect c =
        ap (λ o. nat_lt 0 depth && option_map_or (λ class. allows (cover g (each p.new fresh)) t (cell_by p.new c) class effect) o false) (class_of_by c.object)
        ∙ by_option (class_of one c.object)
      where
        by_option : (o : Option ℕ) → (nat_lt 0 depth && option_map_or (λ class. allows (cover g (each p.new fresh)) t (cell_by p.new c) class effect) o false) ≡ (nat_lt 0 depth && option_map_or (λ class. allows (cover h fresh) t c class effect) o false)
        by_option None = refl
        by_option (Some class) = ap₂ (λ a b. nat_lt 0 depth && (a || b)) (fresh_by p fresh c.object) (covered_by p h g holds t c class effect)
