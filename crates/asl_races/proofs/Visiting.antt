-- The cells that an evaluation comes to: they are there; and an evaluation that reads no cell in which the address of an object of others
-- stands comes to no cell of such an object.
use Rattle.std.proofs.Common.{◌≡◌, ◌≢◌, ℕ, zero, suc, ◌<◌, ◌≤◌, ◌⊎◌, ◌++◌, true, false, List, [], ◌∷◌, Option, Some, None, length, slice_get, refl, ap, sym, subst, inl, inr, arith}
use Rattle.std.specs.Prelude.{IsSome}
use Rattle.std.proofs.lemmas.Option.{same_Some}
use Rattle.asl_code.specs.declared.image.Image.{Image}
use Rattle.asl_code.specs.declared.lock.Base.{Base}
use Rattle.asl_code.specs.declared.lock.Base.TheVariants.{Reg, Global}
use Rattle.asl_code.specs.declared.lock.Lock.{Lock}
use Rattle.asl_code.specs.declared.lock.Lock.TheVariants as lock
use Rattle.asl_code.specs.declared.path.Op.{Op}
use Rattle.asl_code.specs.declared.path.Op.TheVariants.{Deref, Off}
use Rattle.asl_code.specs.declared.value.Value.{Value}
use Rattle.asl_code.specs.declared.value.Value.TheVariants.{Addr}
use Rattle.asl_code.specs.declared.value.Cell.{Cell}
use Rattle.asl_code.specs.declared.value.Effect.TheVariants.{Read}
use Rattle.asl_code.specs.Fits.{HasBase}
use Rattle.asl_lock_forest.specs.Holding.{Holding, Covers}
use Rattle.asl_expression.specs.Expression.{base_cell, walked}
use Rattle.asl_machine.specs.State.{Object, cell_at, class_of}
use Rattle.asl_machine.specs.Access.{AllPoint}
use Rattle.asl_machine.specs.Request.{heap_of}
use Rattle.asl_machine.specs.WellFormed.{AreWellFormed}
use Rattle.asl_machine.proofs.Heaps.{class_there}
use Rattle.asl_machine.proofs.Nodes.{Denotes, base_there, path_there}
use Rattle.asl_atomicity.specs.Serial.{ReadsCovered, ListCovered}
use Rattle.asl_atomicity.proofs.Renaming.{HasGlobals}
use Rattle.asl_atomicity.proofs.Away.{IsAway, off_away, star_away, base_away}
use Rattle.asl_races.specs.Visits.{Visit, visit, reads, visits, visited}

-- the first of some visits, and those after it
first_is : (v w : Visit) (rest : List Visit) → slice_get (v ∷ rest) zero ≡ Some w → v ≡ w
first_is v w rest is = same_Some _ _ is

same_visit : (c d : Cell) (r : _) → visit c r ≡ visit d true → (c ≡ d) × (r ≡ true)
same_visit c d r e = (ap (λ (v : Visit). v.cell) e, ap (λ (v : Visit). v.is_read) e)

above_zero : (n : ℕ) → 0 < suc n
above_zero n = omega arith

one_more : (k n : ℕ) → k < n → suc k < suc n
one_more k n lt = omega (arith, lt)

-- ---- no object of others

-- an address in an object of others stands in a cell of such an object, or in a barred one; who reads a barred one comes to the goal
module _ (objects : List Object) (others : ℕ → Type 0) (Barred : Cell → Type 0) (Goal : Type 0)
    (shut : (o k : ℕ) (c : Cell) → others o → cell_at objects c ≡ Some (Addr o k) → others c.object ⊎ Barred c) where
  abbrev Away : Option Cell → Type 0
  Away at = IsAway others Goal at

  -- of these visits, so many, each that reads a barred cell comes to the goal
  abbrev IsBarring : List Visit → ℕ → Type 0
  IsBarring vs place = (n : ℕ) (c : Cell) → n < place → slice_get vs n ≡ Some (visit c true) → Barred c → Goal

  later : (v : Visit) (vs : List Visit) (place : ℕ) → IsBarring (v ∷ vs) (suc place) → IsBarring vs place
  later v vs place bars n c lt at = bars (suc n) c (one_more n place lt) at

  step_away : (op : Op) (c : Cell) → Away (Some c) → (reads op ≡ true → Barred c → Goal) → Away (walked (heap_of objects) op c)
  step_away (Off places) c away bars = off_away others Goal objects places (Some c) away
  step_away Deref c away bars =
      star_away others Goal objects (Some c) (λ d same o k at other. elim (shut o k d other at) [ inl inside ↦ away d same inside | inr barred ↦ bars refl (subst Barred (sym (same_Some _ _ same)) barred) ])

  path_away : (ops : List Op) (at : Option Cell) (rest : List Visit) → Away at → (n : ℕ) (v : Visit) → slice_get (visits objects ops at ++ rest) n ≡ Some v → IsBarring (visits objects ops at ++ rest) n → others v.cell.object →
      Goal ⊎ ((m : ℕ) × (slice_get rest m ≡ Some v) × IsBarring rest m)
  path_away [] None rest away n v is bars other = inr (n, is, bars)
  path_away [] (Some c) rest away zero v is bars other = inl (away c refl (subst (λ (x : Visit). others x.cell.object) (sym (first_is (visit c false) v rest is)) other))
  path_away [] (Some c) rest away (suc n) v is bars other = inr (n, is, later (visit c false) rest n bars)
  path_away (op ∷ ops) None rest away n v is bars other = inr (n, is, bars)
  path_away (op ∷ ops) (Some c) rest away zero v is bars other =
      inl (away c refl (subst (λ (x : Visit). others x.cell.object) (sym (first_is (visit c (reads op)) v (visits objects ops (walked (heap_of objects) op c) ++ rest) is)) other))
  path_away (op ∷ ops) (Some c) rest away (suc n) v is bars other =
      let next = walked (heap_of objects) op c in
      path_away ops next rest (step_away op c away (λ e. bars zero c (above_zero n) (ap (λ b. Some (visit c b)) e))) n v is (later (visit c (reads op)) (visits objects ops next ++ rest) n bars) other

  module _ (globals : ℕ) (regs : List Value) (above : (o : ℕ) → others o → globals ≤ o) (far : (o k r : ℕ) → others o → slice_get regs r ≢ Some (Addr o k)) where
    begins_away : (b : Base) → ((n : ℕ) → b ≡ Global n → n < globals) → Away (base_cell regs b)
    begins_away b known =
        base_away others Goal regs b (λ n is other. absurd (let le = above n other in let lt = known n is in omega (arith, le, lt))) (λ o k r at other. absurd (far o k r other at))

    -- what begins on globals and on registers that have no address in an object of others comes to the goal before it comes to such an object
    pub visited_away : (ls : List Lock) → HasGlobals globals ls → (n : ℕ) (v : Visit) → slice_get (visited objects regs ls) n ≡ Some v → IsBarring (visited objects regs ls) n → others v.cell.object → Goal
    visited_away [] known n v is bars other = absurd cc
    visited_away (lock.Expr e effect ∷ ls) known n v is bars other =
        elim (path_away e.path (base_cell regs e.base) (visited objects regs ls) (begins_away e.base known.0) n v is bars other) [
          | inl goal ↦ goal
          | inr rest ↦ visited_away ls known.1 rest.0 v rest.1 rest.2 other
        ]
    visited_away (lock.Class class effect ∷ ls) known n v is bars other = visited_away ls known n v is bars other
    visited_away (lock.Root effect ∷ ls) known n v is bars other = visited_away ls known n v is bars other

-- ---- what is visited is there

has_base : (image : Image) (b : Base) → ((g : ℕ) → b ≡ Global g → g < length image.globals) → HasBase image b
has_base image (Reg r) known = tt
has_base image (Global g) known = known g refl

module _ (image : Image) (objects : List Object) (sound : AreWellFormed image objects) where
  path_cells_there : (ops : List Op) (at : Option Cell) (rest : List Visit) → Denotes objects at → (n : ℕ) (v : Visit) → slice_get (visits objects ops at ++ rest) n ≡ Some v →
      IsSome (cell_at objects v.cell) ⊎ ((m : ℕ) × (slice_get rest m ≡ Some v))
  path_cells_there [] None rest there n v is = inr (n, is)
  path_cells_there [] (Some c) rest there zero v is = inl (subst (λ (x : Visit). IsSome (cell_at objects x.cell)) (first_is (visit c false) v rest is) there)
  path_cells_there [] (Some c) rest there (suc n) v is = inr (n, is)
  path_cells_there (op ∷ ops) None rest there n v is = inr (n, is)
  path_cells_there (op ∷ ops) (Some c) rest there zero v is =
      inl (subst (λ (x : Visit). IsSome (cell_at objects x.cell)) (first_is (visit c (reads op)) v (visits objects ops (walked (heap_of objects) op c) ++ rest) is) there)
  path_cells_there (op ∷ ops) (Some c) rest there (suc n) v is = path_cells_there ops (walked (heap_of objects) op c) rest (path_there image objects (op ∷ []) (Some c) sound there) n v is

  pub visited_there : (regs : List Value) → AllPoint objects regs → (ls : List Lock) → HasGlobals (length image.globals) ls → (n : ℕ) (v : Visit) → slice_get (visited objects regs ls) n ≡ Some v → IsSome (cell_at objects v.cell)
  visited_there regs points [] known n v is = absurd cc
  visited_there regs points (lock.Expr e effect ∷ ls) known n v is =
      elim (path_cells_there e.path (base_cell regs e.base) (visited objects regs ls) (base_there image objects regs e.base sound points (has_base image e.base known.0)) n v is) [
        | inl there ↦ there
        | inr rest ↦ visited_there regs points ls known.1 rest.0 v rest.1
      ]
  visited_there regs points (lock.Class class effect ∷ ls) known n v is = visited_there regs points ls known n v is
  visited_there regs points (lock.Root effect ∷ ls) known n v is = visited_there regs points ls known n v is

pub some_class : (objects : List Object) (cell : Cell) → IsSome (cell_at objects cell) → (class : ℕ) × (class_of objects cell.object ≡ Some class)
some_class objects cell there =
    elim (cell_at objects cell) as (λ o. cell_at objects cell ≡ o → IsSome o → (class : ℕ) × (class_of objects cell.object ≡ Some class)) [
      | None ↦ λ is f. (let g = f in absurd cc)
      | Some v ↦ λ is f. class_there objects cell v is
    ] refl there

-- ---- what is read is covered, where a list is guarded

module _ (g : Holding) (u : ℕ) (objects : List Object) where
  abbrev IsCovered : Cell → Type 0
  IsCovered c = (class : ℕ) → class_of objects c.object ≡ Some class → Covers g u c class Read

  path_covered : (ops : List Op) (at : Option Cell) (rest : List Visit) → ReadsCovered g u objects ops at → (n : ℕ) (c : Cell) → slice_get (visits objects ops at ++ rest) n ≡ Some (visit c true) →
      IsCovered c ⊎ ((m : ℕ) × (slice_get rest m ≡ Some (visit c true)))
  path_covered [] None rest covered n c is = inr (n, is)
  path_covered [] (Some d) rest covered zero c is = absurd (let e : false ≡ true = (same_visit d c false (first_is (visit d false) (visit c true) rest is)).1 in cc)
  path_covered [] (Some d) rest covered (suc n) c is = inr (n, is)
  path_covered (op ∷ ops) None rest covered n c is = inr (n, is)
  path_covered (Off places ∷ ops) (Some d) rest covered zero c is =
      absurd (let e : false ≡ true = (same_visit d c false (first_is (visit d false) (visit c true) (visits objects ops (walked (heap_of objects) (Off places) d) ++ rest) is)).1 in cc)
  path_covered (Off places ∷ ops) (Some d) rest covered (suc n) c is = path_covered ops (walked (heap_of objects) (Off places) d) rest covered n c is
  path_covered (Deref ∷ ops) (Some d) rest covered zero c is =
      let same : d ≡ c = (same_visit d c true (first_is (visit d true) (visit c true) (visits objects ops (walked (heap_of objects) Deref d) ++ rest) is)).0 in
      inl (λ class of. covered.0 c class (ap (λ z. Some z) same) of)
  path_covered (Deref ∷ ops) (Some d) rest covered (suc n) c is = path_covered ops (walked (heap_of objects) Deref d) rest covered.1 n c is

  pub visited_covered : (regs : List Value) (ls : List Lock) → ListCovered g u objects regs ls → (n : ℕ) (c : Cell) → slice_get (visited objects regs ls) n ≡ Some (visit c true) → IsCovered c
  visited_covered regs [] covered n c is = absurd cc
  visited_covered regs (lock.Expr e effect ∷ ls) covered n c is =
      elim (path_covered e.path (base_cell regs e.base) (visited objects regs ls) covered.0 n c is) [ inl here ↦ here | inr rest ↦ visited_covered regs ls covered.1 rest.0 c rest.1 ]
  visited_covered regs (lock.Class class effect ∷ ls) covered n c is = visited_covered regs ls covered n c is
  visited_covered regs (lock.Root effect ∷ ls) covered n c is = visited_covered regs ls covered n c is
