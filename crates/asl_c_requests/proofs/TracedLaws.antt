-- The evaluation over what C shows is that over all registers and objects that are as shown, until it comes to a cell of which nothing is told.
use Rattle.std.proofs.Common.{◌≡◌, ℕ, ◌+◌, ◌<◌, true, cond, List, [], ◌∷◌, ◌++◌, length, drop, get_or, Option, None, Some, Result, Ok, Err, refl, sym, ap, subst, ◌∙◌, inl, inr}
use Rattle.std.specs.Prelude.{option_and_then}
use Rattle.std.proofs.lemmas.List.{at_drop_more}
use Rattle.std.proofs.lemmas.Bool.{cases_Bool}
use Rattle.asl_code.specs.declared.value.Value.{Value}
use Rattle.asl_code.specs.declared.value.Cell.{Cell}
use Rattle.asl_code.specs.declared.path.Op.{Op}
use Rattle.asl_code.specs.declared.path.Op.TheVariants.{Deref, Off}
use Rattle.asl_expression.specs.Expression as expression
use Rattle.asl_expression.specs.Expression.{pointed, path_cell}
use Rattle.asl_machine.specs.State.{Object, cell_at}
use Rattle.asl_machine.specs.Request.{heap_of}
use Rattle.asl_c_requests.specs.Shown.{IsShown, told_at}
use Rattle.asl_c_requests.specs.Traced.{is_there, told_or, followed, moved, walked, traced}
use Rattle.asl_c_requests.specs.declared.shown.ShownCell.{ShownCell}
use Rattle.asl_c_requests.specs.declared.shown.ShownObject.{ShownObject}
use Rattle.asl_c_requests.specs.declared.shown.ShownValue.{ShownValue}
use Rattle.asl_c_requests.proofs.ShownLaws.{there_holds, not_there, same_moved}

-- nothing goes on from a cell of which nothing is told
pub stuck : (objects : List ShownObject) (cells : List ShownCell) (ops : List Op) (cell : Cell) → traced objects cells ops (Err cell) ≡ Err cell
stuck objects cells [] cell = refl
stuck objects cells (op ∷ ops) cell = stuck objects cells ops cell

-- nor from no cell
pub nowhere : (objects : List ShownObject) (cells : List ShownCell) (ops : List Op) → traced objects cells ops (Ok None) ≡ Ok None
nowhere objects cells [] = refl
nowhere objects cells (op ∷ ops) = nowhere objects cells ops

-- a path from one of its operations on
pub trace_fails : (objects : List ShownObject) (cells : List ShownCell) (ops : List Op) (i : ℕ) (cell : Cell) (d : Op) (other : Cell) → i < length ops →
    walked objects cells (get_or ops i d) cell ≡ Err other → traced objects cells (drop i ops) (Ok (Some cell)) ≡ Err other
trace_fails objects cells ops i cell d other lt e =
    at_drop_more (λ (l : List Op). traced objects cells l (Ok (Some cell))) ops i d lt
    ∙ ap (traced objects cells (drop (i + 1) ops)) e ∙ stuck objects cells (drop (i + 1) ops) other

pub trace_goes : (objects : List ShownObject) (cells : List ShownCell) (ops : List Op) (i : ℕ) (cell : Cell) (d : Op) (next : Option Cell) → i < length ops →
    walked objects cells (get_or ops i d) cell ≡ Ok next → traced objects cells (drop i ops) (Ok (Some cell)) ≡ traced objects cells (drop (i + 1) ops) (Ok next)
trace_goes objects cells ops i cell d next lt e =
    at_drop_more (λ (l : List Op). traced objects cells l (Ok (Some cell))) ops i d lt ∙ ap (traced objects cells (drop (i + 1) ops)) e

same_Ok : (x y : Option Cell) → ◌≡◌ {A = Result (Option Cell) Cell} (Ok x) (Ok y) → x ≡ y
same_Ok x y e = cc

same_Err : (x y : Cell) → ◌≡◌ {A = Result (Option Cell) Cell} (Err x) (Err y) → x ≡ y
same_Err x y e = cc

module _ (registers : List ShownValue) (objects : List ShownObject) (cells : List ShownCell) (regs : List Value) (heap : List Object) (shown : IsShown registers objects cells regs heap) where
  -- an address that is followed
  follow_is : (cell : Cell) (next : Option Cell) → followed objects cells cell ≡ Ok next → option_and_then pointed (cell_at heap cell) ≡ next
  follow_is cell next e = elim (cases_Bool (is_there objects cell)) [
    | inl there ↦
        let v = there_holds objects heap cell shown.shapes there in
        let tells : told_or (told_at cells cell) cell ≡ Ok next = sym (ap (λ b. cond b (told_or (told_at cells cell) cell) (Ok None)) there) ∙ e in
        ap (option_and_then pointed) v.1 ∙ by_told (told_at cells cell) refl v.0 v.1 tells
    | inr there ↦
        ap (option_and_then pointed) (not_there objects heap cell shown.shapes there)
        ∙ same_Ok None next (sym (ap (λ b. cond b (told_or (told_at cells cell) cell) (Ok None)) there) ∙ e)
  ]
    where
      by_told : (t : Option (Option Cell)) → told_at cells cell ≡ t → (v : Value) → cell_at heap cell ≡ Some v → told_or t cell ≡ Ok next → pointed v ≡ next
      by_told None is v holds h = cc
      by_told (Some told) is v holds h = shown.tells cell v told holds is ∙ same_Ok told next h

  pub walk_is : (op : Op) (cell : Cell) (next : Option Cell) → walked objects cells op cell ≡ Ok next → expression.walked (heap_of heap) op cell ≡ next
  walk_is Deref cell next e = follow_is cell next e
  walk_is (Off places) cell next e = same_moved objects heap places cell shown.shapes ∙ same_Ok (moved objects places cell) next e

  -- a path that is evaluated to its end
  pub trace_is : (ops : List Op) (start end : Option Cell) → traced objects cells ops (Ok start) ≡ Ok end → path_cell (heap_of heap) ops start ≡ end
  trace_is [] start end e = same_Ok start end e
  trace_is (op ∷ ops) None end e = trace_is ops None end e
  trace_is (op ∷ ops) (Some cell) end e =
      elim (walked objects cells op cell) as (λ r. walked objects cells op cell ≡ r → traced objects cells ops r ≡ Ok end →
      path_cell (heap_of heap) ops (expression.walked (heap_of heap) op cell) ≡ end) [
        | Ok next ↦ λ is h. ap (path_cell (heap_of heap) ops) (walk_is op cell next is) ∙ trace_is ops next end h
        | Err other ↦ λ is h. let s = stuck objects cells ops other in cc
      ] refl e

-- nothing is told of a cell at which an address cannot be followed, and it is there
pub follow_needs : (objects : List ShownObject) (cells : List ShownCell) (cell other : Cell) → followed objects cells cell ≡ Err other →
    (cell ≡ other) × (told_at cells cell ≡ None) × (is_there objects cell ≡ true)
follow_needs objects cells cell other e = elim (cases_Bool (is_there objects cell)) [
  | inl there ↦
      let tells : told_or (told_at cells cell) cell ≡ Err other = sym (ap (λ b. cond b (told_or (told_at cells cell) cell) (Ok None)) there) ∙ e in
      let r = by_told (told_at cells cell) tells in (r.0, r.1, there)
  | inr there ↦ let h : ◌≡◌ {A = Result (Option Cell) Cell} (Ok None) (Err other) = sym (ap (λ b. cond b (told_or (told_at cells cell) cell) (Ok None)) there) ∙ e in cc
]
  where
    by_told : (t : Option (Option Cell)) → told_or t cell ≡ Err other → (cell ≡ other) × (t ≡ None)
    by_told None h = (same_Err cell other h, refl)
    by_told (Some told) h = cc

-- where a path comes to a cell of which nothing is told
pub record Stops (objects : List ShownObject) (cells : List ShownCell) (ops : List Op) (start : Option Cell) (cell : Cell) : Type 0 where
  pub before : List Op
  pub after : List Op
  pub split : ops ≡ before ++ Deref ∷ after
  pub untold : told_at cells cell ≡ None
  pub there : is_there objects cell ≡ true
  pub comes : (registers : List ShownValue) (regs : List Value) (heap : List Object) → IsShown registers objects cells regs heap → path_cell (heap_of heap) before start ≡ Some cell

-- one operation before a path that stops
stops_later : (objects : List ShownObject) (cells : List ShownCell) (op : Op) (ops : List Op) (at : Cell) (next : Option Cell) (cell : Cell) → walked objects cells op at ≡ Ok next →
    Stops objects cells ops next cell → Stops objects cells (op ∷ ops) (Some at) cell
stops_later objects cells op ops at next cell is later = record {
  before = op ∷ later.before;
  after = later.after;
  split = ap (λ (l : List Op). op ∷ l) later.split;
  untold = later.untold;
  there = later.there;
  comes = λ registers regs heap shown.
      ap (path_cell (heap_of heap) later.before) (walk_is registers objects cells regs heap shown op at next is) ∙ later.comes registers regs heap shown;
}

-- a path that stops at once
stops_here : (objects : List ShownObject) (cells : List ShownCell) (op : Op) (ops : List Op) (at cell : Cell) → walked objects cells op at ≡ Err cell → Stops objects cells (op ∷ ops) (Some at) cell
stops_here objects cells (Off places) ops at cell is = cc
stops_here objects cells Deref ops at cell is =
    let needs = follow_needs objects cells at cell is in record {
      before = [];
      after = ops;
      split = refl;
      untold = subst (λ k. told_at cells k ≡ None) needs.0 needs.1;
      there = subst (λ k. is_there objects k ≡ true) needs.0 needs.2;
      comes = λ registers regs heap shown. ap Some needs.0;
    }

pub trace_stops : (objects : List ShownObject) (cells : List ShownCell) (ops : List Op) (start : Option Cell) (cell : Cell) → traced objects cells ops (Ok start) ≡ Err cell →
    Stops objects cells ops start cell
trace_stops objects cells [] start cell e = cc
trace_stops objects cells (op ∷ ops) None cell e = let n = nowhere objects cells ops in cc
trace_stops objects cells (op ∷ ops) (Some at) cell e =
    elim (walked objects cells op at) as (λ r. walked objects cells op at ≡ r → traced objects cells ops r ≡ Err cell → Stops objects cells (op ∷ ops) (Some at) cell) [
      | Ok next ↦ λ is h. stops_later objects cells op ops at next cell is (trace_stops objects cells ops next cell h)
      | Err other ↦ λ is h.
          let s = stuck objects cells ops other in
          let same : other ≡ cell = cc in
          stops_here objects cells op ops at cell (subst (λ k. walked objects cells op at ≡ Err k) same is)
    ] refl e
