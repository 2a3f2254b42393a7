-- What a store leaves of the heap: the objects, their classes and their sizes, and each cell but the one that is written. And what a `new`
-- leaves of the addresses in cells.
use Rattle.std.proofs.Common.{◌≡◌, ◌≢◌, ℕ, pos, ◌<◌, ◌⊎◌, ◌++◌, List, [], ◌∷◌, Option, Some, None, length, set, slice_get, refl, ap, sym, ◌∙◌, subst, inl, inr, length-set}
use Rattle.std.specs.Prelude.{IsSome, option_map, option_and_then}
use Rattle.std.specs.Option.{option_map_or}
use Rattle.std.proofs.lemmas.Bool.Decides.{eqb_tells}
use Rattle.std.proofs.lemmas.Option.{slice_get_within}
use Rattle.asl_code.specs.declared.value.Value.{Value}
use Rattle.asl_code.specs.declared.value.Value.TheVariants.{Int, Addr}
use Rattle.asl_code.specs.declared.value.Cell.{Cell}
use Rattle.asl_machine.specs.State.{Object, cell_at, class_of, size_of, with_cell, written, new_object}
use Rattle.asl_expression.specs.Expression.{cell_of}
use Rattle.asl_machine.proofs.Lists.{get_same, get_other, get_kept, get_either, one_more, replicated}

-- after a store an object is as it was, or has another value in one cell
store_object : (objects : List Object) (c : Cell) (v : Value) (n : ℕ) → (slice_get (written objects c v) n ≡ slice_get objects n)
    ⊎ ((o : Object) × (slice_get objects n ≡ Some o) × (slice_get (written objects c v) n ≡ Some (with_cell o c.offset v)))
store_object objects c v n =
    elim (slice_get objects c.object) as (λ o. slice_get objects c.object ≡ o →
    (slice_get (option_map_or (λ (object : Object). set objects c.object (with_cell object c.offset v)) o objects) n ≡ slice_get objects n)
    ⊎ ((p : Object) × (slice_get objects n ≡ Some p)
    × (slice_get (option_map_or (λ (object : Object). set objects c.object (with_cell object c.offset v)) o objects) n ≡ Some (with_cell p c.offset v)))) [
      | None ↦ λ e. inl refl
      | Some o ↦ λ e. elim (eqb_tells n c.object) [
        | inl same ↦ inr (
          o,
          ap (slice_get objects) same.1 ∙ e,
          ap (slice_get (set objects c.object (with_cell o c.offset v))) same.1 ∙ get_same objects c.object (with_cell o c.offset v) (slice_get_within objects c.object o e),
        )
        | inr other ↦ inl (get_other objects c.object n (with_cell o c.offset v) other.1)
      ]
    ] refl

-- a store changes no class
pub class_of-written : (objects : List Object) (c : Cell) (v : Value) (n : ℕ) → class_of (written objects c v) n ≡ class_of objects n
class_of-written objects c v n =
    elim (store_object objects c v n) [
      | inl same ↦ ap (option_map (λ (o : Object). o.class)) same
      | inr at ↦ ap (option_map (λ (o : Object). o.class)) at.2 ∙ sym (ap (option_map (λ (o : Object). o.class)) at.1)
    ]

-- a store changes no size
pub size_of-written : (objects : List Object) (c : Cell) (v : Value) (n : ℕ) → size_of (written objects c v) n ≡ size_of objects n
size_of-written objects c v n =
    elim (store_object objects c v n) [
      | inl same ↦ ap (option_map (λ (o : Object). length o.cells)) same
      | inr at ↦
          ap (option_map (λ (o : Object). length o.cells)) at.2
          ∙ ap (λ (n : ℕ). Some n) (length-set at.0.cells c.offset v)
          ∙ sym (ap (option_map (λ (o : Object). length o.cells)) at.1)
    ]

-- an option that is the same has a value too
pub some_is : (a b : Option Value) → a ≡ b → IsSome a → IsSome b
some_is a b e h = subst (λ o. IsSome o) e h

-- what an object's cell holds
pub cell_from : (o : Option Object) (offset : ℕ) (object : Object) → o ≡ Some object → option_and_then (λ (p : Object). slice_get p.cells offset) o ≡ slice_get object.cells offset
cell_from o offset object e = ap (option_and_then (λ (p : Object). slice_get p.cells offset)) e

-- a cell of the object is there after a cell is set
there_after : (cells : List Value) (i j : ℕ) (v : Value) → IsSome (slice_get cells j) → IsSome (slice_get (set cells i v) j)
there_after cells i j v h =
    elim (slice_get cells j) as (λ o. slice_get cells j ≡ o → IsSome o → IsSome (slice_get (set cells i v) j)) [
      | None ↦ λ e k. let f = k in cc
      | Some w ↦ λ e k. elim (get_kept cells i j v w e) [ inl x ↦ subst (λ o. IsSome o) (sym x) refl | inr x ↦ subst (λ o. IsSome o) (sym x) refl ]
    ] refl h

-- a store leaves every cell there
pub cell_kept : (objects : List Object) (c : Cell) (v : Value) (x : Cell) → IsSome (cell_at objects x) → IsSome (cell_at (written objects c v) x)
cell_kept objects c v x h =
    elim (store_object objects c v x.object) [
      | inl same ↦ some_is _ _ (sym (ap (option_and_then (λ (p : Object). slice_get p.cells x.offset)) same)) h
      | inr at ↦
          let before : IsSome (slice_get at.0.cells x.offset) = some_is _ _ (cell_from _ x.offset at.0 at.1) h in
          some_is _ _ (sym (cell_from _ x.offset (with_cell at.0 c.offset v) at.2)) (there_after at.0.cells c.offset x.offset v before)
    ]

-- after a store a cell holds what was stored or what it held
pub cell_either : (objects : List Object) (c : Cell) (v : Value) (x : Cell) (w : Value) → cell_at (written objects c v) x ≡ Some w → (w ≡ v) ⊎ (cell_at objects x ≡ Some w)
cell_either objects c v x w e =
    elim (store_object objects c v x.object) [
      | inl same ↦ inr (sym (ap (option_and_then (λ (p : Object). slice_get p.cells x.offset)) same) ∙ e)
      | inr at ↦
          elim (get_either at.0.cells c.offset x.offset v w (sym (cell_from _ x.offset (with_cell at.0 c.offset v) at.2) ∙ e)) [
            | inl is ↦ inl is
            | inr old ↦ inr (cell_from _ x.offset at.0 at.1 ∙ old)
          ]
    ]

-- two cells are the same or not
pub tell_cells : (x y : Cell) → (x ≡ y) ⊎ (x ≢ y)
tell_cells x y =
    elim (eqb_tells x.object y.object) [
      | inl o ↦ elim (eqb_tells x.offset y.offset) [
        | inl i ↦ inl (λ k. cell_of (o.1 k) (i.1 k))
        | inr i ↦ inr (λ e. i.1 (ap (λ (c : Cell). c.offset) e))
      ]
      | inr o ↦ inr (λ e. o.1 (ap (λ (c : Cell). c.object) e))
    ]

-- a store to a cell that is there puts the value there
pub written_same : (objects : List Object) (c : Cell) (v w : Value) → cell_at objects c ≡ Some w → cell_at (written objects c v) c ≡ Some v
written_same objects c v w e =
    elim (slice_get objects c.object) as (λ o. slice_get objects c.object ≡ o → option_and_then (λ (p : Object). slice_get p.cells c.offset) o ≡ Some w →
    cell_at (option_map_or (λ (p : Object). set objects c.object (with_cell p c.offset v)) o objects) c ≡ Some v) [
      | None ↦ λ is f. cc
      | Some p ↦ λ is f.
          cell_from _ c.offset (with_cell p c.offset v) (get_same objects c.object (with_cell p c.offset v) (slice_get_within objects c.object p is))
          ∙ get_same p.cells c.offset v (slice_get_within p.cells c.offset w f)
    ] refl e

-- a store leaves every other cell
pub written_other : (objects : List Object) (c : Cell) (v : Value) (x : Cell) → x ≢ c → cell_at (written objects c v) x ≡ cell_at objects x
written_other objects c v x other =
    elim (slice_get objects c.object) as (λ o. slice_get objects c.object ≡ o → cell_at (option_map_or (λ (p : Object). set objects c.object (with_cell p c.offset v)) o objects) x ≡ cell_at objects x) [
      | None ↦ λ is. refl
      | Some p ↦ λ is. elim (eqb_tells x.object c.object) [
        | inl same ↦
            let offset : x.offset ≢ c.offset = λ f. other (λ k. cell_of (same.1 k) (f k)) in
            cell_from _ x.offset (with_cell p c.offset v)
            (ap (slice_get (set objects c.object (with_cell p c.offset v))) same.1 ∙ get_same objects c.object (with_cell p c.offset v) (slice_get_within objects c.object p is))
            ∙ get_other p.cells c.offset x.offset v offset
            ∙ sym (cell_from _ x.offset p (ap (slice_get objects) same.1 ∙ is))
        | inr apart ↦ ap (option_and_then (λ (q : Object). slice_get q.cells x.offset)) (get_other objects c.object x.object (with_cell p c.offset v) apart.1)
      ]
    ] refl

-- after a store a cell is the one and holds what was stored, or it holds what it held
pub stored_or_old : (objects : List Object) (c : Cell) (v : Value) (x : Cell) (w : Value) → cell_at (written objects c v) x ≡ Some w → ((x ≡ c) × (w ≡ v)) ⊎ (cell_at objects x ≡ Some w)
stored_or_old objects c v x w e =
    elim (tell_cells x c) [
      | inl same ↦ elim (cell_either objects c v x w e) [ inl is ↦ inl (same, is) | inr old ↦ inr old ]
      | inr other ↦ inr (sym (written_other objects c v x other) ∙ e)
    ]

-- a cell that is there is of an object that is there, which has a class
pub object_there : (objects : List Object) (cell : Cell) (v : Value) → cell_at objects cell ≡ Some v → cell.object < length objects
object_there objects cell v e =
    elim (slice_get objects cell.object) as (λ o. slice_get objects cell.object ≡ o → option_and_then (λ (p : Object). slice_get p.cells cell.offset) o ≡ Some v → cell.object < length objects) [
      | None ↦ λ is f. cc
      | Some p ↦ λ is f. slice_get_within objects cell.object p is
    ] refl e

-- a cell that is there is of an object with a class
pub class_there : (objects : List Object) (cell : Cell) (v : Value) → cell_at objects cell ≡ Some v → (class : ℕ) × (class_of objects cell.object ≡ Some class)
class_there objects cell v e =
    elim (slice_get objects cell.object) as (λ o. slice_get objects cell.object ≡ o → option_and_then (λ (p : Object). slice_get p.cells cell.offset) o ≡ Some v → (class : ℕ) × (class_of objects cell.object ≡ Some class)) [
      | None ↦ λ is f. cc
      | Some p ↦ λ is f. (p.class, ap (option_map (λ (q : Object). q.class)) is)
    ] refl e

-- an object that has a class is there
pub class_within : (objects : List Object) (o class : ℕ) → class_of objects o ≡ Some class → o < length objects
class_within objects o class of =
    elim (slice_get objects o) as (λ x. slice_get objects o ≡ x → option_map (λ (y : Object). y.class) x ≡ Some class → o < length objects) [
      | None ↦ λ is e. cc
      | Some x ↦ λ is e. slice_get_within objects o x is
    ] refl of

-- after a `new` an address in a cell is one that stood there before
pub old_address : (objects : List Object) (cells class : ℕ) (cell : Cell) (o k : ℕ) → cell_at (objects ++ new_object class cells ∷ []) cell ≡ Some (Addr o k) → cell_at objects cell ≡ Some (Addr o k)
old_address objects cells class cell o k at =
    elim (slice_get (objects ++ new_object class cells ∷ []) cell.object) as (λ x. slice_get (objects ++ new_object class cells ∷ []) cell.object ≡ x →
    option_and_then (λ (p : Object). slice_get p.cells cell.offset) x ≡ Some (Addr o k) → cell_at objects cell ≡ Some (Addr o k)) [
      | None ↦ λ is f. cc
      | Some p ↦ λ is f. elim (one_more objects (new_object class cells) p cell.object is) [
        | inl before ↦ ap (option_and_then (λ (q : Object). slice_get q.cells cell.offset)) before ∙ f
        | inr made ↦ absurd (let z : Addr o k ≡ Int (pos 0) = replicated cells cell.offset (Int (pos 0)) (Addr o k) (ap (λ (q : Object). slice_get q.cells cell.offset) (sym made) ∙ f) in cc)
      ]
    ] refl at
