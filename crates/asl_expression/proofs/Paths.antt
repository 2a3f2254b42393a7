-- Laws of the evaluation of expressions: of the cells to which paths lead.
use Rattle.std.proofs.Common.{◌≡◌, ◌≢◌, ℕ, suc, ◌+◌, ◌<◌, ◌⊎◌, ◌++◌, true, false, cond, List, [], ◌∷◌, Option, None, Some, length, get_or, drop, refl, ap, ap₂, sym, ◌∙◌, inl, inr}
use Rattle.std.proofs.Math.Seq.{drop-cons}
use Rattle.std.specs.Prelude.{option_and_then, nat_lt}
use Rattle.std.proofs.lemmas.Bool.Decides.{eqb_tells}
use Rattle.asl_code.specs.declared.value.Value.{Value}
use Rattle.asl_code.specs.declared.value.Cell.{Cell}
use Rattle.asl_code.specs.declared.path.Op.{Op}
use Rattle.asl_code.specs.declared.path.Op.TheVariants.{Deref}
use Rattle.asl_expression.specs.Expression.{Seen, cell_of, pointed, moved, walked, path_cell}

-- from no cell no path leads to one
pub no_cell_from_none : (heap : Seen) (ops : List Op) → path_cell heap ops None ≡ None
no_cell_from_none heap [] = refl
no_cell_from_none heap (op ∷ ops) = no_cell_from_none heap ops

-- where an operation of a path leads to no cell, the rest of the path leads to none
pub no_cell_from_step : (heap : Seen) (ops : List Op) (i : ℕ) (cell : Cell) (d : Op) → i < length ops → walked heap (get_or ops i d) cell ≡ None →
    path_cell heap (drop i ops) (Some cell) ≡ None
no_cell_from_step heap ops i cell d lt e =
    ap (λ (rest : List Op). path_cell heap rest (Some cell)) (drop-cons ops i d lt)
    ∙ ap (λ (next : Option Cell). path_cell heap (drop (suc i) ops) next) e ∙ no_cell_from_none heap (drop (suc i) ops)

-- a path after a path
pub path_append : (h : Seen) (p q : List Op) (start : Option Cell) → path_cell h (p ++ q) start ≡ path_cell h q (path_cell h p start)
path_append h [] q start = refl
path_append h (op ∷ p) q start = path_append h p q (option_and_then (walked h op) start)

-- the first operation of a path that leads to a cell
pub first_step : (h : Seen) (op : Op) (ops : List Op) (cell end : Cell) → path_cell h (op ∷ ops) (Some cell) ≡ Some end →
    (next : Cell) × (walked h op cell ≡ Some next) × (path_cell h ops (Some next) ≡ Some end)
first_step h op ops cell end e =
    elim (walked h op cell) as (λ o. walked h op cell ≡ o → path_cell h ops o ≡ Some end → (next : Cell) × (walked h op cell ≡ Some next) × (path_cell h ops (Some next) ≡ Some end)) [
      | None ↦ λ is f. let n = no_cell_from_none h ops in cc
      | Some next ↦ λ is f. (next, is, f)
    ] refl e

-- a path from no cell leads to none
pub start_there : (h : Seen) (ops : List Op) (start : Option Cell) (end : Cell) → path_cell h ops start ≡ Some end → (cell : Cell) × (start ≡ Some cell)
start_there h ops None end e = let n = no_cell_from_none h ops in cc
start_there h ops (Some cell) end e = (cell, refl)

pub moved_stays : (h : Seen) (places : ℕ) (cell next : Cell) → moved h places cell ≡ Some next → next.object ≡ cell.object
moved_stays h places cell next e =
    elim (h.size cell.object) as (λ o. option_and_then (λ size. cond (nat_lt (cell.offset + places) size) (Some (cell_of cell.object (cell.offset + places))) None) o ≡ Some next → next.object ≡ cell.object) [
      | None ↦ λ f. cc
      | Some size ↦ λ f. elim (nat_lt (cell.offset + places) size) as (λ b. cond b (Some (cell_of cell.object (cell.offset + places))) None ≡ Some next → next.object ≡ cell.object) [
        | true ↦ λ g. let is : cell_of cell.object (cell.offset + places) ≡ next = cc in ap (λ (k : Cell). k.object) (sym is)
        | false ↦ λ g. cc
      ] f
    ] e

-- two cells are the same or not
pub tell_cells : (a b : Cell) → (a ≡ b) ⊎ (a ≢ b)
tell_cells a b =
    elim (eqb_tells a.object b.object) [
      | inl o ↦ elim (eqb_tells a.offset b.offset) [
        | inl i ↦ inl (ap₂ (λ x y. cell_of x y) o.1 i.1)
        | inr i ↦ inr (λ e. i.1 (ap (λ (k : Cell). k.offset) e))
      ]
      | inr o ↦ inr (λ e. o.1 (ap (λ (k : Cell). k.object) e))
    ]

-- the value of a cell that a `*` reads
pub star_reads : (h : Seen) (cell next : Cell) → walked h Deref cell ≡ Some next → (v : Value) × (h.cell cell ≡ Some v) × (pointed v ≡ Some next)
star_reads h cell next e =
    elim (h.cell cell) as (λ o. h.cell cell ≡ o → option_and_then pointed o ≡ Some next → (v : Value) × (h.cell cell ≡ Some v) × (pointed v ≡ Some next)) [
      | None ↦ λ is f. cc
      | Some v ↦ λ is f. (v, is, f)
    ] refl e

pub moved_same : (h new : Seen) → ((n : ℕ) → new.size n ≡ h.size n) → (places : ℕ) (cell : Cell) → moved new places cell ≡ moved h places cell
moved_same h new same places cell =
    ap (λ o. option_and_then (λ size. cond (nat_lt (cell.offset + places) size) (Some (cell_of cell.object (cell.offset + places))) None) o) (same cell.object)
