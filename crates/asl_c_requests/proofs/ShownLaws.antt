-- Registers and objects that are as shown, place by place.
use Rattle.std.proofs.Common.{◌≡◌, ℕ, ◌+◌, ◌<◌, ◌≤◌, true, false, cond, List, Option, None, Some, length, map, slice_get, refl, sym, ap, ◌∙◌, inl, inr, arith}
use Rattle.std.specs.Prelude.{nat_lt, option_map, option_and_then}
use Rattle.std.specs.Option.{option_map_or}
use Rattle.std.proofs.lemmas.Bool.{ltb-true, ltb-false}
use Rattle.std.proofs.lemmas.Option.{slice_get-map, slice_get_past, slice_get_cases, same_Some}
use Rattle.asl_code.specs.declared.value.Value.{Value}
use Rattle.asl_code.specs.declared.value.Cell.{Cell}
use Rattle.asl_code.specs.declared.lock.Base.{Base}
use Rattle.asl_code.specs.declared.lock.Base.TheVariants.{Reg, Global}
use Rattle.asl_expression.specs.Expression as expression
use Rattle.asl_expression.specs.Expression.{cell_of, pointed}
use Rattle.asl_machine.specs.State.{Object, cell_at, class_of}
use Rattle.asl_machine.specs.Request.{heap_of}
use Rattle.asl_c_requests.specs.Shown.{address_of, shape, shown_shape}
use Rattle.asl_c_requests.specs.Traced as told
use Rattle.asl_c_requests.specs.Traced.{is_there}
use Rattle.asl_c_requests.specs.declared.shown.ShownObject.{ShownObject}
use Rattle.asl_c_requests.specs.declared.shown.ShownValue.{ShownValue}

abbrev pub SameShapes : List ShownObject → List Object → Type 0
SameShapes objects heap = map shape heap ≡ map shown_shape objects

-- at each place there is an object of the class and the size that are shown, or none where none is shown
pub at_place : (objects : List ShownObject) (heap : List Object) (n : ℕ) → SameShapes objects heap →
    option_map shape (slice_get heap n) ≡ option_map shown_shape (slice_get objects n)
at_place objects heap n same = sym (slice_get-map shape heap n) ∙ ap (λ (l : List (ℕ × ℕ)). slice_get l n) same ∙ slice_get-map shown_shape objects n

same_class : (o : Object) (s : ShownObject) → option_map shape (Some o) ≡ option_map shown_shape (Some s) → o.class ≡ s.class
same_class o s e = ap (λ (p : ℕ × ℕ). p.0) (same_Some (shape o) (shown_shape s) e)

same_size : (o : Object) (s : ShownObject) → option_map shape (Some o) ≡ option_map shown_shape (Some s) → length o.cells ≡ s.size
same_size o s e = ap (λ (p : ℕ × ℕ). p.1) (same_Some (shape o) (shown_shape s) e)

-- a cell that is there holds a value
pub there_holds : (objects : List ShownObject) (heap : List Object) (cell : Cell) → SameShapes objects heap → is_there objects cell ≡ true →
    (v : Value) × (cell_at heap cell ≡ Some v)
there_holds objects heap cell same there =
    by_cases (slice_get heap cell.object) (slice_get objects cell.object) cell.offset (at_place objects heap cell.object same) there
  where
    by_cases : (x : Option Object) (y : Option ShownObject) (i : ℕ) → option_map shape x ≡ option_map shown_shape y →
        option_map_or (λ (s : ShownObject). nat_lt i s.size) y false ≡ true → (v : Value) × (option_and_then (λ (o : Object). slice_get o.cells i) x ≡ Some v)
    by_cases None None i e t = cc
    by_cases None (Some s) i e t = cc
    by_cases (Some o) None i e t = cc
    by_cases (Some o) (Some s) i e t =
        let size : length o.cells ≡ s.size = same_size o s e in
        let lt : i < s.size = ltb-true i s.size t in
        elim ((slice_get_cases o.cells i).1) [
          | inl h ↦ (h.0, h.2)
          | inr h ↦ let far : length o.cells ≤ i = h.0 in absurd (omega arith)
        ]

-- and of one that is not there nothing is held
pub not_there : (objects : List ShownObject) (heap : List Object) (cell : Cell) → SameShapes objects heap → is_there objects cell ≡ false → cell_at heap cell ≡ None
not_there objects heap cell same there =
    by_cases (slice_get heap cell.object) (slice_get objects cell.object) cell.offset (at_place objects heap cell.object same) there
  where
    by_cases : (x : Option Object) (y : Option ShownObject) (i : ℕ) → option_map shape x ≡ option_map shown_shape y →
        option_map_or (λ (s : ShownObject). nat_lt i s.size) y false ≡ false → option_and_then (λ (o : Object). slice_get o.cells i) x ≡ None
    by_cases None y i e t = refl
    by_cases (Some o) None i e t = cc
    by_cases (Some o) (Some s) i e t =
        let size : length o.cells ≡ s.size = same_size o s e in
        let le : s.size ≤ i = ltb-false i s.size t in
        slice_get_past o.cells i (omega arith)

-- an index leads to the same cell
pub same_moved : (objects : List ShownObject) (heap : List Object) (places : ℕ) (cell : Cell) → SameShapes objects heap →
    expression.moved (heap_of heap) places cell ≡ told.moved objects places cell
same_moved objects heap places cell same =
    by_cases (slice_get heap cell.object) (slice_get objects cell.object) (at_place objects heap cell.object same)
  where
    by_cases : (x : Option Object) (y : Option ShownObject) → option_map shape x ≡ option_map shown_shape y →
        option_and_then (λ size. cond (nat_lt (cell.offset + places) size) (Some (cell_of cell.object (cell.offset + places))) None) (option_map (λ (o : Object). length o.cells) x)
        ≡ option_and_then (λ size. cond (nat_lt (cell.offset + places) size) (Some (cell_of cell.object (cell.offset + places))) None) (option_map (λ (s : ShownObject). s.size) y)
    by_cases None None e = refl
    by_cases None (Some s) e = cc
    by_cases (Some o) None e = cc
    by_cases (Some o) (Some s) e = ap (λ size. cond (nat_lt (cell.offset + places) size) (Some (cell_of cell.object (cell.offset + places))) None) (same_size o s e)

-- an object has the class that is shown, and none where none is shown
pub same_classes : (objects : List ShownObject) (heap : List Object) (n : ℕ) → SameShapes objects heap →
    class_of heap n ≡ option_map (λ (s : ShownObject). s.class) (slice_get objects n)
same_classes objects heap n same = by_cases (slice_get heap n) (slice_get objects n) (at_place objects heap n same)
  where
    by_cases : (x : Option Object) (y : Option ShownObject) → option_map shape x ≡ option_map shown_shape y →
        option_map (λ (o : Object). o.class) x ≡ option_map (λ (s : ShownObject). s.class) y
    by_cases None None e = refl
    by_cases None (Some s) e = cc
    by_cases (Some o) None e = cc
    by_cases (Some o) (Some s) e = ap Some (same_class o s e)

-- an evaluation begins at the same cell
pub same_base : (registers : List ShownValue) (regs : List Value) (base : Base) → map pointed regs ≡ map address_of registers →
    expression.base_cell regs base ≡ told.base_cell registers base
same_base registers regs (Global g) same = refl
same_base registers regs (Reg r) same =
    by_cases (slice_get regs r) (slice_get registers r)
    (sym (slice_get-map pointed regs r) ∙ ap (λ (l : List (Option Cell)). slice_get l r) same ∙ slice_get-map address_of registers r)
  where
    by_cases : (x : Option Value) (y : Option ShownValue) → option_map pointed x ≡ option_map address_of y → option_and_then pointed x ≡ option_and_then address_of y
    by_cases None None e = refl
    by_cases None (Some s) e = cc
    by_cases (Some v) None e = cc
    by_cases (Some v) (Some s) e = same_Some (pointed v) (address_of s) e
