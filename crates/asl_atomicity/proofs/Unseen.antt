-- What one thread's step does is unseen by another thread.
use Rattle.std.proofs.Common.{◌≡◌, ◌≢◌, ℕ, ◌==◌, ◌+◌, set, ap₂, ◌++◌, ◌||◌, ◌&&◌, Bool, true, false, List, [], ◌∷◌, Some, None, Ok, Err, length, slice_get, unwrap_or, refl, ap, sym, ◌∙◌, subst, inl, inr}
use Rattle.std.specs.Prelude.{if◌then◌else◌, IsSome, IsTrue, nat_lt, option_map, option_and_then}
use Rattle.std.specs.Option.{option_map_or}
use Rattle.std.proofs.lemmas.Bool.{and_parts}
use Rattle.std.proofs.lemmas.Bool.Decides.{eqb_tells}
use Rattle.std.proofs.lemmas.Option.{slice_get_within}
use Rattle.asl_code.specs.declared.value.Value.{Value}
use Rattle.asl_code.specs.declared.value.Value.TheVariants.{Int, Null, Addr}
use Rattle.asl_code.specs.declared.value.Cell.{Cell}
use Rattle.asl_code.specs.declared.value.Effect.{Effect}
use Rattle.asl_code.specs.declared.value.Effect.TheVariants.{Read, Write}
use Rattle.asl_mode_lanes.specs.declared.mode.Mode.TheVariants.{NL}
use Rattle.asl_mode_lanes.specs.Mode.{is_at_most}
use Rattle.asl_lock_forest.specs.declared.node.Node.{Node}
use Rattle.asl_lock_forest.specs.declared.node.Node.TheVariants.{Root, Class, Leaf}
use Rattle.asl_lock_forest.specs.Keys.{key}
use Rattle.asl_lock_forest.specs.Holding.{Holding, held, is_covered, covering_mode, IsLawful}
use Rattle.asl_machine.specs.State.{Object, Frame, Activity, cell_at, class_of, size_of, with_cell, written, new_object}
use Rattle.asl_machine.specs.Cover.{is_fresh, Cover, cover, allows, Allows}
use Rattle.asl_machine.specs.Fresh.{PointElsewhere}
use Rattle.asl_machine.proofs.Freshness.{allowed_pairs}
use Rattle.asl_machine.specs.Access.{is_protected, Points, AllPoint}
use Rattle.asl_expression.specs.Expression.{cell_of}
use Rattle.asl_machine.specs.StepFunction.{register_of, address_moved, address_or_bounds, made_objects, allowed_cell, accessed, loaded}
use Rattle.asl_machine.proofs.Lists.{get_same, get_other, get_before}
use Rattle.asl_machine.proofs.Heaps.{class_of-written, size_of-written}
use Rattle.asl_atomicity.proofs.Uniform.{ObjectsEdit, Same, Stored, Made, put, HoldingEdit, edit}
use Rattle.asl_atomicity.proofs.HoldingEdits.{edit_other}
use Rattle.asl_atomicity.proofs.Stores.{object_of, written_is}

-- the cell is there, and the thread, which is at a, has its address in a register and may write it
pub record Writes (objects : List Object) (h : Holding) (y : ℕ) (a : Activity) (c : Cell) : Type 0 where
  pub class : ℕ
  pub of : class_of objects c.object ≡ Some class
  pub allowed : Allows (cover h a.fresh) y c class Write
  pub there : IsSome (cell_at objects c)
  pub register : ℕ
  pub reads : slice_get a.top.regs register ≡ Some (Addr c.object c.offset)

-- so it is of what the thread wrote
abbrev pub WroteBy : List Object → Holding → ℕ → Activity → ObjectsEdit → Type 0
WroteBy objects h y a e = (v : Value) (c : Cell) → e ≡ Stored v (Ok c) → Writes objects h y a c

-- no register of the first has an address in an object that is fresh for the second
abbrev pub IsFar : Activity → Activity → Type 0
IsFar a b = (o : ℕ) → IsTrue (is_fresh b.fresh o) → PointElsewhere o a.top.regs

held_kept : (e : HoldingEdit) (y x : ℕ) (h : Holding) (n : Node) → x ≢ y → held (edit e y h) x n ≡ held h x n
held_kept e y x h n apart = ap (λ o. unwrap_or o NL) (edit_other e y h (key x n) apart)

pub covered_kept : (e : HoldingEdit) (y x : ℕ) (h : Holding) (c : Cell) (class : ℕ) (effect : Effect) → x ≢ y → is_covered (edit e y h) x c class effect ≡ is_covered h x c class effect
covered_kept e y x h c class effect apart =
    let g = edit e y h in
    ap (λ m. is_at_most (covering_mode effect) m || is_at_most (covering_mode effect) (held g x (Class class)) || is_at_most (covering_mode effect) (held g x Root)) (held_kept e y x h (Leaf c class) apart)
    ∙ ap (λ m. is_at_most (covering_mode effect) (held h x (Leaf c class)) || is_at_most (covering_mode effect) m || is_at_most (covering_mode effect) (held g x Root)) (held_kept e y x h (Class class) apart)
    ∙ ap (λ m. is_at_most (covering_mode effect) (held h x (Leaf c class)) || is_at_most (covering_mode effect) (held h x (Class class)) || is_at_most (covering_mode effect) m) (held_kept e y x h Root apart)

object_before : (objects : List Object) (cells class n : ℕ) (p : Object) → slice_get objects n ≡ Some p → slice_get (made_objects objects cells class) n ≡ Some p
object_before objects cells class n p e = by_room (length objects == 65536)
  where
    by_room : (b : Bool) → slice_get (if b then objects else objects ++ new_object class cells ∷ []) n ≡ Some p
    by_room true = e
    by_room false = get_before objects (new_object class cells ∷ []) n p e

class_kept : (e : ObjectsEdit) (objects : List Object) (n : ℕ) (p : Object) → slice_get objects n ≡ Some p → class_of (put e objects) n ≡ class_of objects n
class_kept Same objects n p is = refl
class_kept (Stored v (Ok c)) objects n p is = class_of-written objects c v n
class_kept (Stored v (Err f)) objects n p is = refl
class_kept (Made cells class) objects n p is = ap (option_map (λ (o : Object). o.class)) (object_before objects cells class n p is ∙ sym is)

size_kept : (e : ObjectsEdit) (objects : List Object) (n : ℕ) (p : Object) → slice_get objects n ≡ Some p → size_of (put e objects) n ≡ size_of objects n
size_kept Same objects n p is = refl
size_kept (Stored v (Ok c)) objects n p is = size_of-written objects c v n
size_kept (Stored v (Err f)) objects n p is = refl
size_kept (Made cells class) objects n p is = ap (option_map (λ (o : Object). length o.cells)) (object_before objects cells class n p is ∙ sym is)

pub other_cell : (objects : List Object) (c d : Cell) (v : Value) → c ≢ d → IsSome (cell_at objects c) → cell_at (written objects c v) d ≡ cell_at objects d
other_cell objects c d v ne there =
    let p = object_of objects c there in
    ap (λ z. cell_at z d) (written_is objects c v p.0 p.1)
    ∙ elim (eqb_tells d.object c.object) [
      | inl same ↦
          ap (λ n. option_and_then (λ (o : Object). slice_get o.cells d.offset) (slice_get (set objects c.object (with_cell p.0 c.offset v)) n)) same.1
          ∙ ap (option_and_then (λ (o : Object). slice_get o.cells d.offset)) (get_same objects c.object (with_cell p.0 c.offset v) (slice_get_within objects c.object p.0 p.1))
          ∙ get_other p.0.cells c.offset d.offset v (λ e. ne (ap₂ (λ o i. record { object = o; offset = i }) (sym same.1) (sym e)))
          ∙ sym (ap (option_and_then (λ (o : Object). slice_get o.cells d.offset)) (ap (slice_get objects) same.1 ∙ p.1))
      | inr other ↦ ap (option_and_then (λ (o : Object). slice_get o.cells d.offset)) (get_other objects c.object d.object (with_cell p.0 c.offset v) other.1)
    ]

cell_kept : (e : ObjectsEdit) (objects : List Object) (d : Cell) → ((v : Value) (c : Cell) → e ≡ Stored v (Ok c) → (c ≢ d) × IsSome (cell_at objects c)) → IsSome (cell_at objects d) → cell_at (put e objects) d ≡ cell_at objects d
cell_kept Same objects d apart there = refl
cell_kept (Stored v (Ok c)) objects d apart there = let k = apart v c refl in other_cell objects c d v k.0 k.1
cell_kept (Stored v (Err f)) objects d apart there = refl
cell_kept (Made cells class) objects d apart there =
    let p = object_of objects d there in
    ap (option_and_then (λ (o : Object). slice_get o.cells d.offset)) (object_before objects cells class d.object p.0 p.1 ∙ sym p.1)

-- who may access a cell is covered for it
protected_allows : (k : Cover) (objects : List Object) (x d : ℕ) (effect : Effect) (c : Cell) (p : Object) → slice_get objects c.object ≡ Some p → is_protected k objects x d effect c ≡ true → Allows k x c p.class effect
protected_allows k objects x d effect c p is e =
    (and_parts (nat_lt 0 d) _ (sym (ap (λ o. nat_lt 0 d && option_map_or (λ class. allows k x c class effect) (option_map (λ (q : Object). q.class) o) false) is) ∙ e)).1

-- a value by which a cell is accessed is its address
ok_address : (k : Cover) (objects : List Object) (x d : ℕ) (effect : Effect) (v : Value) (c : Cell) → accessed k objects x d effect v ≡ Ok c → v ≡ Addr c.object c.offset
ok_address k objects x d effect (Int n) c e = cc
ok_address k objects x d effect Null c e = cc
ok_address k objects x d effect (Addr o i) c e = by_test (is_protected k objects x d effect (cell_of o i)) e
  where
    by_test : (b : Bool) → allowed_cell b effect (cell_of o i) ≡ Ok c → Addr o i ≡ Addr c.object c.offset
    by_test true f = let same : cell_of o i ≡ c = cc in ap (λ (z : Cell). Addr z.object z.offset) same
    by_test false f = cc

-- an address that is read in a register stands there
pub address_held : (f : Frame) (r o i : ℕ) → register_of f r ≡ Addr o i → slice_get f.regs r ≡ Some (Addr o i)
address_held f r o i e =
    elim (slice_get f.regs r) as (λ z. unwrap_or z Null ≡ Addr o i → z ≡ Some (Addr o i)) [ None ↦ λ k. (let g : Null ≡ Addr o i = k in cc) | Some v ↦ λ k. ap (λ w. Some w) k ] e

-- who accesses a cell by a register for writing writes it
pub ok_writes : (h : Holding) (objects : List Object) (x : ℕ) (a : Activity) (r : ℕ) (c : Cell) → Points objects (register_of a.top r) → accessed (cover h a.fresh) objects x a.depth Write (register_of a.top r) ≡ Ok c → Writes objects h x a c
ok_writes h objects x a r c points e =
    let is = ok_address (cover h a.fresh) objects x a.depth Write (register_of a.top r) c e in
    let p = object_of objects c (subst (Points objects) is points) in
    let at : accessed (cover h a.fresh) objects x a.depth Write (Addr c.object c.offset) ≡ Ok c = ap (accessed (cover h a.fresh) objects x a.depth Write) (sym is) ∙ e in
    record {
      class = p.0.class;
      of = ap (option_map (λ (q : Object). q.class)) p.1;
      allowed = protected_allows (cover h a.fresh) objects x a.depth Write c p.0 p.1 (by_test (is_protected (cover h a.fresh) objects x a.depth Write c) at);
      there = subst (Points objects) is points;
      register = r;
      reads = address_held a.top r c.object c.offset is;
    }
  where
    by_test : (b : Bool) → allowed_cell b Write c ≡ Ok c → b ≡ true
    by_test true f = refl
    by_test false f = cc

-- a register's value points to a cell that is there
pub register_points : (objects : List Object) (f : Frame) (r : ℕ) → AllPoint objects f.regs → Points objects (register_of f r)
register_points objects f r all = elim (slice_get f.regs r) as (λ o. slice_get f.regs r ≡ o → Points objects (unwrap_or o Null)) [ None ↦ λ e. tt | Some v ↦ λ e. all r v e ] refl

-- what thread y, which is at b, does is unseen by thread x, which is at a
module _ (objects : List Object) (h : Holding) (x y : ℕ) (a b : Activity) (e : ObjectsEdit) (k : HoldingEdit) (apart : x ≢ y) (lawful : IsLawful h) (wrote : WroteBy objects h y b e) (far : IsFar a b) (near : IsFar b a) where
  pub moved_kept : (places : ℕ) (v : Value) → Points objects v → address_moved (put e objects) places v ≡ address_moved objects places v
  moved_kept places (Int n) points = refl
  moved_kept places Null points = refl
  moved_kept places (Addr o i) points =
      let p = object_of objects (cell_of o i) points in
      ap (λ z. address_or_bounds (option_and_then (λ size. if nat_lt (i + places) size then Some (cell_of o (i + places)) else None) z)) (size_kept e objects o p.0 p.1)

  protected_kept : (effect : Effect) (c : Cell) (p : Object) → slice_get objects c.object ≡ Some p → is_protected (cover (edit k y h) a.fresh) (put e objects) x a.depth effect c ≡ is_protected (cover h a.fresh) objects x a.depth effect c
  protected_kept effect c p is =
      let class : class_of objects c.object ≡ Some p.class = ap (option_map (λ (q : Object). q.class)) is in
      ap (λ o. nat_lt 0 a.depth && option_map_or (λ z. allows (cover (edit k y h) a.fresh) x c z effect) o false) (class_kept e objects c.object p is ∙ class)
      ∙ ap (λ z. nat_lt 0 a.depth && (is_fresh a.fresh c.object || z)) (covered_kept k y x h c p.class effect apart)
      ∙ sym (ap (λ o. nat_lt 0 a.depth && option_map_or (λ z. allows (cover h a.fresh) x c z effect) o false) class)

  pub target_kept : (effect : Effect) (v : Value) → Points objects v → accessed (cover (edit k y h) a.fresh) (put e objects) x a.depth effect v ≡ accessed (cover h a.fresh) objects x a.depth effect v
  target_kept effect (Int n) points = refl
  target_kept effect Null points = refl
  target_kept effect (Addr o i) points =
      let p = object_of objects (cell_of o i) points in
      ap (λ b. allowed_cell b effect (cell_of o i)) (protected_kept effect (cell_of o i) p.0 p.1)

  pub value_kept : (r : ℕ) → Points objects (register_of a.top r) → loaded (put e objects) (accessed (cover h a.fresh) objects x a.depth Read (register_of a.top r)) ≡ loaded objects (accessed (cover h a.fresh) objects x a.depth Read (register_of a.top r))
  value_kept r points = by_value (register_of a.top r) refl points
    where
      by_test : (o i : ℕ) → register_of a.top r ≡ Addr o i → IsSome (cell_at objects (cell_of o i)) → (z : Bool) → is_protected (cover h a.fresh) objects x a.depth Read (cell_of o i) ≡ z →
          loaded (put e objects) (allowed_cell z Read (cell_of o i)) ≡ loaded objects (allowed_cell z Read (cell_of o i))
      by_test o i held there false is = refl
      by_test o i held there true is =
          let p = object_of objects (cell_of o i) there in
          let reads = protected_allows (cover h a.fresh) objects x a.depth Read (cell_of o i) p.0 p.1 is in
          ap (λ z. Ok (unwrap_or z Null)) (cell_kept e objects (cell_of o i) (λ v c f.
          let w = wrote v c f in (
            λ same.
                let of : class_of objects o ≡ Some w.class = ap (λ (z : Cell). class_of objects z.object) (sym same) ∙ w.of in
                let class : p.0.class ≡ w.class = (let u : Some p.0.class ≡ Some w.class = sym (ap (option_map (λ (q : Object). q.class)) p.1) ∙ of in cc) in
                allowed_pairs h lawful x y a.fresh b.fresh apart (cell_of o i) p.0.class reads (subst (λ z. Allows (cover h b.fresh) y (cell_of o i) z Write) (sym class) (subst (λ z. Allows (cover h b.fresh) y z w.class Write) same w.allowed))
                (λ own. near o own w.register c.offset (w.reads ∙ ap (λ (z : Cell). Some (Addr z.object c.offset)) same))
                (λ other. far o other r i (address_held a.top r o i held)),
            w.there,
          )) there)

      by_value : (v : Value) → register_of a.top r ≡ v → Points objects v → loaded (put e objects) (accessed (cover h a.fresh) objects x a.depth Read v) ≡ loaded objects (accessed (cover h a.fresh) objects x a.depth Read v)
      by_value (Int n) is there = refl
      by_value Null is there = refl
      by_value (Addr o i) is there = by_test o i is there (is_protected (cover h a.fresh) objects x a.depth Read (cell_of o i)) refl
