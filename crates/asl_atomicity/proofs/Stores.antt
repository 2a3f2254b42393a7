-- Stores to different cells change places, and so do a store and a new object.
use Rattle.std.proofs.Common.{◌≡◌, ◌≢◌, ℕ, zero, suc, ◌==◌, ◌++◌, Bool, true, false, set, List, [], ◌∷◌, Some, None, Ok, Err, length, slice_get, refl, ap, ap₂, sym, ◌∙◌, inl, inr}
use Rattle.std.specs.Prelude.{if◌then◌else◌, IsSome, option_and_then}
use Rattle.std.specs.Option.{option_map_or}
use Rattle.std.proofs.lemmas.Bool.Decides.{eqb_tells}
use Rattle.std.proofs.lemmas.List.{set-append_left}
use Rattle.std.proofs.lemmas.Option.{slice_get_within}
use Rattle.asl_code.specs.declared.value.Value.{Value}
use Rattle.asl_code.specs.declared.value.Cell.{Cell}
use Rattle.asl_machine.specs.State.{Object, cell_at, with_cell, written, new_object}
use Rattle.asl_machine.specs.StepFunction.{made_objects}
use Rattle.asl_machine.proofs.Lists.{get_same, get_other, get_before}
use Rattle.asl_machine.proofs.WellFormedHeaps.{length-written}
use Rattle.asl_atomicity.proofs.Uniform.{ObjectsEdit, Same, Stored, Made, put}

pub set_set : {X : Type 0} (xs : List X) (i j : ℕ) (v w : X) → i ≢ j → set (set xs i v) j w ≡ set (set xs j w) i v
set_set [] i j v w ne = refl
set_set (x ∷ xs) zero zero v w ne = absurd (ne refl)
set_set (x ∷ xs) zero (suc j) v w ne = refl
set_set (x ∷ xs) (suc i) zero v w ne = refl
set_set {X = X} (x ∷ xs) (suc i) (suc j) v w ne = ap {B = List X} (λ ys. x ∷ ys) (set_set xs i j v w (λ e. ne (ap suc e)))

set_again : {X : Type 0} (xs : List X) (i : ℕ) (v w : X) → set (set xs i v) i w ≡ set xs i w
set_again [] i v w = refl
set_again (x ∷ xs) zero v w = refl
set_again {X = X} (x ∷ xs) (suc i) v w = ap {B = List X} (λ ys. x ∷ ys) (set_again xs i v w)

pub written_is : (objects : List Object) (c : Cell) (v : Value) (p : Object) → slice_get objects c.object ≡ Some p → written objects c v ≡ set objects c.object (with_cell p c.offset v)
written_is objects c v p e = ap (λ z. option_map_or (λ (object : Object). set objects c.object (with_cell object c.offset v)) z objects) e

-- the object of a cell that is there
pub object_of : (objects : List Object) (c : Cell) → IsSome (cell_at objects c) → (p : Object) × (slice_get objects c.object ≡ Some p)
object_of objects c h =
    elim (slice_get objects c.object) as (λ o. slice_get objects c.object ≡ o → IsSome (option_and_then (λ (object : Object). slice_get object.cells c.offset) o) → (p : Object) × (slice_get objects c.object ≡ Some p)) [
      | None ↦ λ e k. let f = k in cc
      | Some p ↦ λ e k. (p, e)
    ] refl h

apart_in_one : (c d : Cell) → c ≢ d → c.object ≡ d.object → c.offset ≢ d.offset
apart_in_one c d ne same e = ne (ap₂ (λ o i. record { object = o; offset = i }) same e)

pub stores_commute : (objects : List Object) (c d : Cell) (v w : Value) → c ≢ d → IsSome (cell_at objects c) → IsSome (cell_at objects d) →
    written (written objects c v) d w ≡ written (written objects d w) c v
stores_commute objects c d v w ne there also =
    let p = object_of objects c there in
    let q = object_of objects d also in
    elim (eqb_tells c.object d.object) [
      | inl same ↦ one p.0 q.0 p.1 q.1 same.1
      | inr other ↦ two p.0 q.0 p.1 q.1 other.1
    ]
  where
    one : (p q : Object) → slice_get objects c.object ≡ Some p → slice_get objects d.object ≡ Some q → c.object ≡ d.object → written (written objects c v) d w ≡ written (written objects d w) c v
    one p q e f same =
        let first : slice_get (set objects c.object (with_cell p c.offset v)) d.object ≡ Some (with_cell p c.offset v) = ap (slice_get (set objects c.object (with_cell p c.offset v))) (sym same) ∙ get_same objects c.object (with_cell p c.offset v) (slice_get_within objects c.object p e) in
        let second : slice_get (set objects d.object (with_cell q d.offset w)) c.object ≡ Some (with_cell q d.offset w) = ap (slice_get (set objects d.object (with_cell q d.offset w))) same ∙ get_same objects d.object (with_cell q d.offset w) (slice_get_within objects d.object q f) in
        let pq : p ≡ q = (let u : Some p ≡ Some q = sym e ∙ ap (slice_get objects) same ∙ f in cc) in
        let cells : with_cell (with_cell p c.offset v) d.offset w ≡ with_cell (with_cell q d.offset w) c.offset v =
        ap (λ z. record { class = p.class; cells = z }) (set_set p.cells c.offset d.offset v w (apart_in_one c d ne same)) ∙ ap (λ z. with_cell (with_cell z d.offset w) c.offset v) pq in
        ap (λ z. written z d w) (written_is objects c v p e)
        ∙ written_is (set objects c.object (with_cell p c.offset v)) d w (with_cell p c.offset v) first
        ∙ ap (λ z. set (set objects z (with_cell p c.offset v)) d.object (with_cell (with_cell p c.offset v) d.offset w)) same
        ∙ set_again objects d.object (with_cell p c.offset v) (with_cell (with_cell p c.offset v) d.offset w)
        ∙ ap (λ z. set objects d.object z) cells
        ∙ sym (set_again objects d.object (with_cell q d.offset w) (with_cell (with_cell q d.offset w) c.offset v))
        ∙ ap (λ z. set (set objects d.object (with_cell q d.offset w)) z (with_cell (with_cell q d.offset w) c.offset v)) (sym same)
        ∙ sym (written_is (set objects d.object (with_cell q d.offset w)) c v (with_cell q d.offset w) second)
        ∙ ap (λ z. written z c v) (sym (written_is objects d w q f))

    two : (p q : Object) → slice_get objects c.object ≡ Some p → slice_get objects d.object ≡ Some q → c.object ≢ d.object → written (written objects c v) d w ≡ written (written objects d w) c v
    two p q e f other =
        ap (λ z. written z d w) (written_is objects c v p e)
        ∙ written_is (set objects c.object (with_cell p c.offset v)) d w q (get_other objects c.object d.object (with_cell p c.offset v) (λ x. other (sym x)) ∙ f)
        ∙ set_set objects c.object d.object (with_cell p c.offset v) (with_cell q d.offset w) other
        ∙ sym (written_is (set objects d.object (with_cell q d.offset w)) c v p (get_other objects d.object c.object (with_cell q d.offset w) other ∙ e))
        ∙ ap (λ z. written z c v) (sym (written_is objects d w q f))

store_before : (objects more : List Object) (c : Cell) (v : Value) → IsSome (cell_at objects c) → written (objects ++ more) c v ≡ written objects c v ++ more
store_before objects more c v there =
    let p = object_of objects c there in
    written_is (objects ++ more) c v p.0 (get_before objects more c.object p.0 p.1)
    ∙ set-append_left objects more c.object (with_cell p.0 c.offset v) (slice_get_within objects c.object p.0 p.1)
    ∙ ap (λ z. z ++ more) (sym (written_is objects c v p.0 p.1))

pub store_made : (objects : List Object) (cells class : ℕ) (c : Cell) (v : Value) → IsSome (cell_at objects c) → written (made_objects objects cells class) c v ≡ made_objects (written objects c v) cells class
store_made objects cells class c v there =
    by_room (length objects == 65536) ∙ sym (ap (λ n. if n == 65536 then written objects c v else written objects c v ++ new_object class cells ∷ []) (length-written objects c v))
  where
    by_room : (b : Bool) → written (if b then objects else objects ++ new_object class cells ∷ []) c v ≡ (if b then written objects c v else written objects c v ++ new_object class cells ∷ [])
    by_room true = refl
    by_room false = store_before objects (new_object class cells ∷ []) c v there

-- the cell of an edit is there
abbrev pub IsThere : List Object → ObjectsEdit → Type 0
IsThere objects Same = Unit {0}
IsThere objects (Stored value (Ok c)) = IsSome (cell_at objects c)
IsThere objects (Stored value (Err f)) = Unit {0}
IsThere objects (Made cells class) = Unit {0}

-- two edits go to different cells
abbrev pub GoApart : ObjectsEdit → ObjectsEdit → Type 0
GoApart (Stored value (Ok c)) (Stored other (Ok d)) = c ≢ d
GoApart (Made cells class) (Made others other) = ⊥
GoApart e d = Unit {0}

pub puts_commute : (objects : List Object) (e d : ObjectsEdit) → IsThere objects e → IsThere objects d → GoApart e d → put e (put d objects) ≡ put d (put e objects)
puts_commute objects Same d there also ne = refl
puts_commute objects (Stored v (Err f)) d there also ne = refl
puts_commute objects (Stored v (Ok c)) Same there also ne = refl
puts_commute objects (Stored v (Ok c)) (Stored w (Err f)) there also ne = refl
puts_commute objects (Stored v (Ok c)) (Stored w (Ok d)) there also ne = sym (stores_commute objects c d v w ne there also)
puts_commute objects (Stored v (Ok c)) (Made cells class) there also ne = store_made objects cells class c v there
puts_commute objects (Made cells class) Same there also ne = refl
puts_commute objects (Made cells class) (Stored w (Err f)) there also ne = refl
puts_commute objects (Made cells class) (Stored w (Ok d)) there also ne = sym (store_made objects cells class d w also)
puts_commute objects (Made cells class) (Made others other) there also ne = absurd ne
