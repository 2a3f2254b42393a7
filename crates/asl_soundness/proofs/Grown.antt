-- The laws of one step for `new`: of the frame that makes the object, and of every other.
use Rattle.std.proofs.Common.{◌≡◌, ℕ, pos, ◌+◌, ◌<◌, ◌++◌, replicate, Bool, true, false, cond, List, [], ◌∷◌, Option, Some, None, length, set, slice_get, refl, ap, sym, ◌∙◌, subst, inl, arith, rules}
use Rattle.std.specs.Prelude.{option_and_then, option_map, nat_lt, IsSome, IsTrue}
use Rattle.std.proofs.lemmas.Bool.{or_left}
use Rattle.std.proofs.lemmas.Option.{same_Some}
use Rattle.asl_code.specs.declared.value.Value.{Value}
use Rattle.asl_code.specs.declared.value.Value.TheVariants.{Int, Null, Addr}
use Rattle.asl_code.specs.declared.value.Cell.{Cell}
use Rattle.asl_code.specs.declared.value.Effect.{Effect}
use Rattle.asl_code.specs.declared.lock.Base.{Base}
use Rattle.asl_code.specs.declared.lock.Base.TheVariants.{Reg, Global}
use Rattle.asl_code.specs.declared.lock.Expr.{Expr}
use Rattle.asl_code.specs.declared.lock.Lock.TheVariants as lock
use Rattle.asl_code.specs.declared.path.Op.{Op}
use Rattle.asl_code.specs.declared.path.Op.TheVariants.{Deref, Off}
use Rattle.asl_points_to.specs.Classes.{Classed}
use Rattle.asl_expression.specs.Expression.{cell_of, pointed, moved, path_cell, base_cell, cell_denoted}
use Rattle.asl_lock_expr.specs.Links.{LinkContext, is_register, replaced}
use Rattle.asl_expression.proofs.Paths.{start_there, first_step, star_reads, moved_stays}
use Rattle.asl_machine.specs.State.{Object, cell_at, class_of, new_object}
use Rattle.asl_machine.specs.Access.{Points, AllPoint}
use Rattle.asl_machine.specs.Request.{heap_of}
use Rattle.asl_machine.specs.Cover.{is_fresh, Cover}
use Rattle.asl_machine.proofs.Lists.{get_before, get_last, replicated}
use Rattle.asl_machine.proofs.Heaps.{class_there}
use Rattle.asl_machine.proofs.WellFormedHeaps.{read_before}
use Rattle.asl_soundness.specs.Protected.{Protected, BaseThere}
use Rattle.asl_soundness.proofs.Protecting.{AllProtected, get_within, protect, protected_at}
use Rattle.asl_soundness.proofs.Rows.{base_set}

-- ---- objects are added

-- the cell is there
abbrev pub IsCell : List Object → Cell → Type 0
IsCell objects cell = (w : Value) × (cell_at objects cell ≡ Some w)

-- an object that has a cell is the same when objects are added
same_object : (objects more : List Object) (cell : Cell) → IsCell objects cell → slice_get (objects ++ more) cell.object ≡ slice_get objects cell.object
same_object objects more cell there =
    elim (slice_get objects cell.object) as (λ o. slice_get objects cell.object ≡ o → option_and_then (λ (p : Object). slice_get p.cells cell.offset) o ≡ Some there.0 → slice_get (objects ++ more) cell.object ≡ slice_get objects cell.object) [
      | None ↦ λ is f. cc
      | Some p ↦ λ is f. get_before objects more cell.object p is ∙ sym is
    ] refl there.1

-- the cell some places on is there
moved_there : (objects : List Object) (places : ℕ) (cell next : Cell) → moved (heap_of objects) places cell ≡ Some next → IsCell objects next
moved_there objects places cell next e =
    elim (slice_get objects cell.object) as (λ o. slice_get objects cell.object ≡ o → option_and_then (λ size. cond (nat_lt (cell.offset + places) size) (Some (cell_of cell.object (cell.offset + places))) None) (option_map (λ (p : Object). length p.cells) o) ≡ Some next → IsCell objects next) [
      | None ↦ λ is f. cc
      | Some p ↦ λ is f. elim (nat_lt (cell.offset + places) (length p.cells)) as (λ b. nat_lt (cell.offset + places) (length p.cells) ≡ b → cond b (Some (cell_of cell.object (cell.offset + places))) None ≡ Some next → IsCell objects next) [
        | true ↦ λ test g.
            let lt : cell.offset + places < length p.cells = search (rules, arith, test) in
            let w = get_within p.cells (cell.offset + places) lt in
            let at : cell_of cell.object (cell.offset + places) ≡ next = cc in
            (w.0, ap (cell_at objects) (sym at) ∙ ap (option_and_then (λ (q : Object). slice_get q.cells (cell.offset + places))) is ∙ w.1)
        | false ↦ λ test g. cc
      ] refl f
    ] refl e

-- where a value points, a cell is
pointed_there : (objects : List Object) (v : Value) (next : Cell) → Points objects v → pointed v ≡ Some next → IsCell objects next
pointed_there objects (Int n) next p e = cc
pointed_there objects Null next p e = cc
pointed_there objects (Addr o i) next p e =
    let at : cell_of o i ≡ next = cc in
    elim (cell_at objects (cell_of o i)) as (λ x. cell_at objects (cell_of o i) ≡ x → IsSome x → IsCell objects next) [
      | None ↦ λ is f. let g : false ≡ true = f in cc
      | Some w ↦ λ is f. (w, ap (cell_at objects) (sym at) ∙ is)
    ] refl p

-- the paths from cells that are there lead where they led when objects are added, to cells that are there
path_grown : (objects more : List Object) → ((cell : Cell) (v : Value) → cell_at objects cell ≡ Some v → Points objects v) → (ops : List Op) (cell end : Cell) → IsCell objects cell →
    path_cell (heap_of (objects ++ more)) ops (Some cell) ≡ Some end → (path_cell (heap_of objects) ops (Some cell) ≡ Some end) × IsCell objects end
path_grown objects more points [] cell end there e = (e, subst (IsCell objects) (same_Some cell end e) there)
path_grown objects more points (Off places ∷ ops) cell end there e =
    let s = first_step (heap_of (objects ++ more)) (Off places) ops cell end e in
    let old : moved (heap_of objects) places cell ≡ Some s.0 =
    sym (ap (λ o. option_and_then (λ size. cond (nat_lt (cell.offset + places) size) (Some (cell_of cell.object (cell.offset + places))) None) (option_map (λ (p : Object). length p.cells) o)) (same_object objects more cell there)) ∙ s.1 in
    let rest = path_grown objects more points ops s.0 end (moved_there objects places cell s.0 old) s.2 in
    (ap (path_cell (heap_of objects) ops) old ∙ rest.0, rest.1)
path_grown objects more points (Deref ∷ ops) cell end there e =
    let s = first_step (heap_of (objects ++ more)) Deref ops cell end e in
    let same : cell_at (objects ++ more) cell ≡ cell_at objects cell = ap (option_and_then (λ (p : Object). slice_get p.cells cell.offset)) (same_object objects more cell there) in
    let old : pointed there.0 ≡ Some s.0 = sym (ap (option_and_then pointed) (same ∙ there.1)) ∙ s.1 in
    let rest = path_grown objects more points ops s.0 end (pointed_there objects there.0 s.0 (points cell there.0 there.1) old) s.2 in
    (ap (path_cell (heap_of objects) ops) (ap (option_and_then pointed) there.1 ∙ old) ∙ rest.0, rest.1)

-- the globals' cells are there
abbrev pub GlobalsPoint : Classed → List Object → Type 0
GlobalsPoint c objects = (g : ℕ) → g < length c.globals → Points objects (Addr g 0)

-- the cell at a base is there
base_there : (c : Classed) (objects : List Object) (regs : List Value) → AllPoint objects regs → GlobalsPoint c objects → (base : Base) (cell : Cell) → BaseThere c base → base_cell regs base ≡ Some cell → IsCell objects cell
base_there c objects regs points globals (Reg r) cell there e =
    elim (slice_get regs r) as (λ o. slice_get regs r ≡ o → option_and_then pointed o ≡ Some cell → IsCell objects cell) [
      | None ↦ λ is f. cc
      | Some w ↦ λ is f. pointed_there objects w cell (points r w is) f
    ] refl e
base_there c objects regs points globals (Global g) cell there e = pointed_there objects (Addr g 0) cell (globals g there) e

-- the class of an object that was there before
class_before : (objects more : List Object) (o y x : ℕ) → class_of objects o ≡ Some y → class_of (objects ++ more) o ≡ Some x → class_of objects o ≡ Some x
class_before objects more o y x was is = was ∙ ap (λ z. Some z) (same_Some y x (sym (read_before (λ (p : Object). p.class) objects more o y was) ∙ is))

-- what is protected over objects is so over more
pub grown_protects : (c : Classed) (k : Cover) (t : ℕ) (objects more : List Object) (regs after : List Value) → AllPoint objects regs → GlobalsPoint c objects →
    ((cell : Cell) (w : Value) → cell_at objects cell ≡ Some w → Points objects w) → (e : Expr) (effect : Effect) → BaseThere c e.base → base_cell after e.base ≡ base_cell regs e.base →
    Protected k t objects regs (lock.Expr e effect) → Protected k t (objects ++ more) after (lock.Expr e effect)
grown_protects c k t objects more regs after points globals cells e effect there same p =
    protect k t (objects ++ more) effect (cell_denoted (heap_of (objects ++ more)) after e) (λ end d.
    let d2 : path_cell (heap_of (objects ++ more)) e.path (base_cell regs e.base) ≡ Some end = ap (path_cell (heap_of (objects ++ more)) e.path) (sym same) ∙ d in
    let s = start_there (heap_of (objects ++ more)) e.path (base_cell regs e.base) end d2 in
    let old = path_grown objects more cells e.path s.0 end (base_there c objects regs points globals e.base s.0 there s.1) (ap (path_cell (heap_of (objects ++ more)) e.path) (sym s.1) ∙ d2) in
    let y = class_there objects end old.1.0 old.1.1 in
    let denotes : cell_denoted (heap_of objects) regs e ≡ Some end = ap (path_cell (heap_of objects) e.path) s.1 ∙ old.0 in
    λ x of. protected_at k t objects effect _ end denotes p x (class_before objects more end.object y.0 x y.1 of))

-- ---- the thread's own `new`

-- a path from an object that is the last, and new, ends in it: one with a `*` leads to no cell
path_stays : (objects : List Object) (class n : ℕ) (ops : List Op) (cell end : Cell) → cell.object ≡ length objects → path_cell (heap_of (objects ++ new_object class n ∷ [])) ops (Some cell) ≡ Some end → end.object ≡ length objects
path_stays objects class n [] cell end at e = ap (λ (k : Cell). k.object) (sym (same_Some cell end e)) ∙ at
path_stays objects class n (Off places ∷ ops) cell end at e =
    let s = first_step (heap_of (objects ++ new_object class n ∷ [])) (Off places) ops cell end e in
    path_stays objects class n ops s.0 end (moved_stays (heap_of (objects ++ new_object class n ∷ [])) places cell s.0 s.1 ∙ at) s.2
path_stays objects class n (Deref ∷ ops) cell end at e =
    let s = first_step (heap_of (objects ++ new_object class n ∷ [])) Deref ops cell end e in
    let r = star_reads (heap_of (objects ++ new_object class n ∷ [])) cell s.0 s.1 in
    let own : slice_get (replicate n (Int (pos 0))) cell.offset ≡ Some r.0 =
    sym (ap (option_and_then (λ (p : Object). slice_get p.cells cell.offset)) (ap (slice_get (objects ++ new_object class n ∷ [])) at ∙ get_last objects (new_object class n))) ∙ r.1 in
    let none : pointed r.0 ≡ None = ap pointed (replicated n cell.offset (Int (pos 0)) r.0 own) in
    let some = r.2 in
    cc

-- `new`: an expression on the register ends in the new object, which is fresh; every other is as before
pub new_row : (v : LinkContext) (k : Cover) (t : ℕ) (objects : List Object) (regs : List Value) (a n class : ℕ) → a < length regs → IsTrue (is_fresh k.fresh (length objects)) → AllPoint objects regs →
    GlobalsPoint v.classes objects → ((cell : Cell) (w : Value) → cell_at objects cell ≡ Some w → Points objects w) →
    (e : Expr) (effect : Effect) → BaseThere v.classes e.base → AllProtected k t objects regs (replaced a e effect []) →
    Protected k t (objects ++ new_object class n ∷ []) (set regs a (Addr (length objects) 0)) (lock.Expr e effect)
new_row v k t objects regs a n class lt fresh points globals cells e effect there all =
    let new = objects ++ new_object class n ∷ [] in
    let after = set regs a (Addr (length objects) 0) in
    let base : (b : Bool) → is_register a e.base ≡ b → base_cell after e.base ≡ cond {A = Option Cell} b (Some (cell_of (length objects) 0)) (base_cell regs e.base) =
    λ b is. base_set regs a (Addr (length objects) 0) e.base lt ∙ ap (λ x. cond {A = Option Cell} x (Some (cell_of (length objects) 0)) (base_cell regs e.base)) is in
    elim (is_register a e.base) as (λ b. is_register a e.base ≡ b → AllProtected k t objects regs (cond b [] (lock.Expr e effect ∷ [])) → Protected k t new after (lock.Expr e effect)) [
      | true ↦ λ is p. protect k t new effect (cell_denoted (heap_of new) after e) (λ end d x of.
          let own = path_stays objects class n e.path (cell_of (length objects) 0) end refl (ap (path_cell (heap_of new) e.path) (sym (base true is)) ∙ d) in
          or_left (is_fresh k.fresh end.object) _ (ap (is_fresh k.fresh) own ∙ fresh))
      | false ↦ λ is p. grown_protects v.classes k t objects (new_object class n ∷ []) regs after points globals cells e effect there (base false is) (p (lock.Expr e effect) (inl refl))
    ] refl all
