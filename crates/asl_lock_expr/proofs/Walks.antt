-- Laws of paths: of the cells to which they lead, and of the classes of these.
use Rattle.std.proofs.Common.{◌≡◌, ◌≢◌, ℕ, ◌+◌, ◌⊎◌, ◌||◌, ◌++◌, Bool, true, false, cond, List, [], ◌∷◌, Option, Some, None, refl, ap, ap₂, sym, ◌∙◌, subst, inl, inr}
use Rattle.std.specs.Prelude.{option_and_then, nat_lt}
use Rattle.std.proofs.lemmas.Bool.Decides.{eqb_tells}
use Rattle.asl_code.specs.declared.value.Value.{Value}
use Rattle.asl_code.specs.declared.value.Value.TheVariants.{Int, Null, Addr}
use Rattle.asl_code.specs.declared.value.Cell.{Cell}
use Rattle.asl_code.specs.declared.value.Effect.{Effect}
use Rattle.asl_code.specs.declared.lock.Base.TheVariants.{Reg}
use Rattle.asl_code.specs.declared.path.Op.{Op}
use Rattle.asl_code.specs.declared.path.Op.TheVariants.{Deref, Off}
use Rattle.asl_points_to.specs.Classes.{Classed, inside}
use Rattle.asl_expression.specs.Expression.{Seen, cell_of, pointed, moved, walked, path_cell}
use Rattle.asl_lock_expr.specs.ClassOf.{step_class, path_class}
use Rattle.asl_lock_expr.specs.Links.{IsOne, on, is_class, hits, begins_with_star, goes_through}
use Rattle.asl_lock_expr.specs.Agrees.{PointsTo, HeapAgrees, IsWrite}
use Rattle.asl_expression.proofs.Paths.{no_cell_from_none, first_step, moved_stays, tell_cells, star_reads, moved_same}
use Rattle.asl_lock_expr.proofs.Ones.{one_left, one_right}

-- where a value points
pub value_class : (classes : ℕ → Option ℕ) (class : Option ℕ) (v : Value) (next : Cell) → PointsTo classes class v → pointed v ≡ Some next →
    (y : ℕ) × (class ≡ Some y) × (classes next.object ≡ Some y)
value_class classes class (Int n) next p e = cc
value_class classes class Null next p e = cc
value_class classes class (Addr object offset) next p e =
    let is : cell_of object offset ≡ next = cc in
    (p.0, p.1, ap (λ (k : Cell). classes k.object) (sym is) ∙ p.2)

-- one operation leads to a cell of the class that it gives
pub class_walk : (c : Classed) (classes : ℕ → Option ℕ) (h : Seen) → HeapAgrees c classes h → (op : Op) (cell next : Cell) (x : ℕ) →
    classes cell.object ≡ Some x → walked h op cell ≡ Some next → (y : ℕ) × (step_class c op x ≡ Some y) × (classes next.object ≡ Some y)
class_walk c classes h agrees Deref cell next x at e =
    let r = star_reads h cell next e in
    value_class classes (inside c x) r.0 next (agrees cell r.0 x r.1 at) r.2
class_walk c classes h agrees (Off places) cell next x at e = (x, refl, ap classes (moved_stays h places cell next e) ∙ at)

-- the cell to which a path leads is of the class of the path
pub class_along : (c : Classed) (classes : ℕ → Option ℕ) (h : Seen) → HeapAgrees c classes h → (ops : List Op) (cell end : Cell) (x : ℕ) →
    classes cell.object ≡ Some x → path_cell h ops (Some cell) ≡ Some end → (y : ℕ) × (path_class c ops (Some x) ≡ Some y) × (classes end.object ≡ Some y)
class_along c classes h agrees [] cell end x at e =
    let is : cell ≡ end = cc in
    (x, refl, ap (λ (k : Cell). classes k.object) (sym is) ∙ at)
class_along c classes h agrees (op ∷ ops) cell end x at e =
    let s = first_step h op ops cell end e in
    let w = class_walk c classes h agrees op cell s.0 x at s.1 in
    let r = class_along c classes h agrees ops s.0 end w.0 w.2 s.2 in
    (r.0, ap (path_class c ops) w.1 ∙ r.1, r.2)

pub walked_same : (h new : Seen) (c0 : Cell) (v : Value) → IsWrite h new c0 v → (cell : Cell) → cell ≢ c0 → walked new Deref cell ≡ walked h Deref cell
walked_same h new c0 v w cell other = ap (λ o. option_and_then pointed o) (w.others cell other)

-- a path in the new heap either meets no changed cell and leads where it led, or continues from the stored value by
-- a path that the store's line of links offers, in the old heap
abbrev pub StaysOrHits : Classed → Option ℕ → ℕ → Effect → Option ℕ → List Op → Seen → Cell → Value → Cell → Cell → Type 0
StaysOrHits c hit b effect class ops h c0 v cell end =
    ((path_cell h ops (Some cell) ≡ Some end) × (begins_with_star ops ≡ true → cell ≢ c0))
    ⊎ ((r : List Op) × IsOne (hits c hit b effect class ops) (on (Reg b) r effect) × (path_cell h r (pointed v) ≡ Some end))

same_class : (x : ℕ) → is_class (Some x) (Some x) ≡ true
same_class x = elim (eqb_tells x x) [ inl y ↦ y.0 | inr n ↦ absurd (n.1 refl) ]

pub last_hit : (c : Classed) (classes : ℕ → Option ℕ) (h new : Seen) (c0 : Cell) (v : Value) → IsWrite h new c0 v → HeapAgrees c classes new →
    (b hit : ℕ) (effect : Effect) → classes c0.object ≡ Some hit → (ops : List Op) (cell end : Cell) (x : ℕ) →
    classes cell.object ≡ Some x → path_cell new ops (Some cell) ≡ Some end → StaysOrHits c (Some hit) b effect (Some x) ops h c0 v cell end
last_hit c classes h new c0 v w agrees b hit effect of [] cell end x at e = inl (e, λ f. cc)
last_hit c classes h new c0 v w agrees b hit effect of (Off places ∷ ops) cell end x at e =
    let s = first_step new (Off places) ops cell end e in
    let k = class_walk c classes new agrees (Off places) cell s.0 x at s.1 in
    elim (last_hit c classes h new c0 v w agrees b hit effect of ops s.0 end x (ap classes (moved_stays new places cell s.0 s.1) ∙ at) s.2) [
      | inl p ↦ inl (ap (path_cell h ops) (sym (moved_same h new w.sizes places cell) ∙ s.1) ∙ p.0, λ f. cc)
      | inr q ↦ inr q
    ]
last_hit c classes h new c0 v w agrees b hit effect of (Deref ∷ ops) cell end x at e =
    let s = first_step new Deref ops cell end e in
    let k = class_walk c classes new agrees Deref cell s.0 x at s.1 in
    let later : (r : List Op) → IsOne (hits c (Some hit) b effect (Some k.0) ops) (on (Reg b) r effect) → IsOne (hits c (Some hit) b effect (Some x) (Deref ∷ ops)) (on (Reg b) r effect) =
    λ r o. one_right _ _ _ (subst (λ class. IsOne (hits c (Some hit) b effect class ops) (on (Reg b) r effect)) (sym k.1) o) in
    elim (last_hit c classes h new c0 v w agrees b hit effect of ops s.0 end k.0 k.2 s.2) [
      | inl p ↦ elim (tell_cells cell c0) [
        | inl is ↦
            let same : x ≡ hit = (let u : Some x ≡ Some hit = sym at ∙ ap (λ (k : Cell). classes k.object) is ∙ of in cc) in
            let reads : pointed v ≡ Some s.0 = sym (ap (λ o. option_and_then pointed o) (ap new.cell is ∙ w.there)) ∙ s.1 in
            let yes : is_class (Some x) (Some hit) ≡ true = ap (λ y. is_class (Some x) (Some y)) (sym same) ∙ same_class x in
            inr (
              ops,
              one_left _ _ _ (subst (λ (t : Bool). IsOne (cond t (on (Reg b) ops effect ∷ []) []) (on (Reg b) ops effect)) (sym yes) (inl refl)),
              ap (path_cell h ops) reads ∙ p.0,
            )
        | inr other ↦ inl (ap (path_cell h ops) (sym (walked_same h new c0 v w cell other) ∙ s.1) ∙ p.0, λ f. other)
      ]
      | inr q ↦ inr (q.0, later q.0 q.1, q.2)
    ]

neither : (a b : Bool) → (a || b) ≡ false → (a ≡ false) × (b ≡ false)
neither true b e = cc
neither false b e = (refl, e)

-- a path that goes through no class to which is stored leads where it led, or to no cell as before
pub not_through : (c : Classed) (classes : ℕ → Option ℕ) (h new : Seen) (c0 : Cell) (v : Value) → IsWrite h new c0 v → HeapAgrees c classes new →
    (stores : ℕ → Bool) (hit : ℕ) → classes c0.object ≡ Some hit → stores hit ≡ true → (ops : List Op) (cell : Cell) (x : ℕ) →
    classes cell.object ≡ Some x → goes_through c stores (Some x) ops ≡ false → path_cell new ops (Some cell) ≡ path_cell h ops (Some cell)
not_through c classes h new c0 v w agrees stores hit of writes [] cell x at g = refl
not_through c classes h new c0 v w agrees stores hit of writes (op ∷ ops) cell x at g =
    let p = passes op ops cell x at g in
    elim (walked new op cell) as (λ o. walked new op cell ≡ o → path_cell new ops o ≡ path_cell h ops o) [
      | None ↦ λ is. no_cell_from_none new ops ∙ sym (no_cell_from_none h ops)
      | Some next ↦ λ is.
          let k = class_walk c classes new agrees op cell next x at is in
          not_through c classes h new c0 v w agrees stores hit of writes ops next k.0 k.2 (ap (λ class. goes_through c stores class ops) (sym k.1) ∙ p.1)
    ] refl
    ∙ ap (path_cell h ops) p.0
  where
    passes : (op : Op) (ops : List Op) (cell : Cell) (x : ℕ) → classes cell.object ≡ Some x → goes_through c stores (Some x) (op ∷ ops) ≡ false →
        (walked new op cell ≡ walked h op cell) × (goes_through c stores (step_class c op x) ops ≡ false)
    passes (Off places) ops cell x at g = (moved_same h new w.sizes places cell, g)
    passes Deref ops cell x at g =
        let both = neither (stores x) (goes_through c stores (inside c x) ops) g in
        let other : cell ≢ c0 = λ is. (let u : Some x ≡ Some hit = sym at ∙ ap (λ (k : Cell). classes k.object) is ∙ of in let same : x ≡ hit = cc in let b = ap stores same in let n = both.0 in cc) in
        (walked_same h new c0 v w cell other, both.1)
