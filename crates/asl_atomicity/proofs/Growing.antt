-- What a list asks for is not changed by an object more.
use Rattle.std.proofs.Common.{◌≡◌, ℕ, ◌+◌, ◌==◌, ◌<◌, ◌++◌, Bool, true, false, List, [], ◌∷◌, Option, Some, None, length, slice_get, refl, ap, ap₂, sym, ◌∙◌}
use Rattle.std.specs.Prelude.{if◌then◌else◌, option_map, option_and_then, IsSome, IfOk, nat_lt}
use Rattle.std.specs.Option.{option_map_or}
use Rattle.asl_code.specs.declared.value.Value.{Value}
use Rattle.asl_code.specs.declared.value.Value.TheVariants.{Int, Null, Addr}
use Rattle.asl_code.specs.declared.value.Cell.{Cell}
use Rattle.asl_code.specs.declared.value.Effect.{Effect}
use Rattle.asl_code.specs.declared.image.Image.{Image}
use Rattle.asl_code.specs.declared.lock.Base.{Base}
use Rattle.asl_code.specs.declared.lock.Base.TheVariants.{Reg, Global}
use Rattle.asl_code.specs.declared.lock.Lock.{Lock}
use Rattle.asl_code.specs.declared.lock.Lock.TheVariants as lock
use Rattle.asl_code.specs.declared.path.Op.{Op}
use Rattle.asl_code.specs.declared.path.Op.TheVariants.{Deref, Off}
use Rattle.asl_expression.specs.Expression.{cell_of, pointed, base_cell, moved, walked, path_cell, cell_denoted}
use Rattle.asl_machine.specs.State.{Object, cell_at, class_of, new_object}
use Rattle.asl_machine.specs.Access.{Points, AllPoint}
use Rattle.asl_machine.specs.WellFormed.{AreWellFormed}
use Rattle.asl_machine.specs.Request.{heap_of, leaf_asks, cell_asks, asks_of, all_asks, joined_all, request_of}
use Rattle.asl_machine.specs.StepFunction.{address_or_bounds, made_objects}
use Rattle.asl_machine.proofs.Lists.{get_before}
use Rattle.asl_machine.proofs.WellFormedHeaps.{global_points, moved_points}
use Rattle.asl_atomicity.proofs.Stores.{object_of}
use Rattle.asl_atomicity.proofs.Renaming.{HasGlobals}

-- the cell is there, if there is one
abbrev IsThere : List Object → Option Cell → Type 0
IsThere objects None = Unit {0}
IsThere objects (Some c) = IsSome (cell_at objects c)

pointed_there : (objects : List Object) (v : Value) → Points objects v → IsThere objects (pointed v)
pointed_there objects (Int n) points = tt
pointed_there objects Null points = tt
pointed_there objects (Addr o i) points = points

module _ (image : Image) (objects more : List Object) (sound : AreWellFormed image objects) where
  object_kept : (c : Cell) → IsSome (cell_at objects c) → slice_get (objects ++ more) c.object ≡ slice_get objects c.object
  object_kept c there = let p = object_of objects c there in get_before objects more c.object p.0 p.1 ∙ sym p.1

  cell_kept : (c : Cell) → IsSome (cell_at objects c) → cell_at (objects ++ more) c ≡ cell_at objects c
  cell_kept c there = ap (option_and_then (λ (o : Object). slice_get o.cells c.offset)) (object_kept c there)

  class_kept : (c : Cell) → IsSome (cell_at objects c) → class_of (objects ++ more) c.object ≡ class_of objects c.object
  class_kept c there = ap (option_map (λ (o : Object). o.class)) (object_kept c there)

  step_kept : (op : Op) (o : Option Cell) → IsThere objects o → option_and_then (walked (heap_of (objects ++ more)) op) o ≡ option_and_then (walked (heap_of objects) op) o
  step_kept op None there = refl
  step_kept (Off places) (Some c) there =
      ap (option_and_then (λ size. if nat_lt (c.offset + places) size then Some (cell_of c.object (c.offset + places)) else None)) (ap (option_map (λ (o : Object). length o.cells)) (object_kept c there))
  step_kept Deref (Some c) there = ap (option_and_then pointed) (cell_kept c there)

  step_there : (op : Op) (o : Option Cell) → IsThere objects o → IsThere objects (option_and_then (walked (heap_of objects) op) o)
  step_there op None there = tt
  step_there (Off places) (Some c) there = by_option (moved (heap_of objects) places c) (moved_points objects places (Addr c.object c.offset))
    where
      by_option : (o : Option Cell) → IfOk (address_or_bounds o) (Points objects) → IsThere objects o
      by_option None k = tt
      by_option (Some d) k = k
  step_there Deref (Some c) there = by_option (cell_at objects c) refl
    where
      by_option : (o : Option Value) → cell_at objects c ≡ o → IsThere objects (option_and_then pointed o)
      by_option None e = tt
      by_option (Some v) e = pointed_there objects v (sound.points c v e)

  path_kept : (ops : List Op) (o : Option Cell) → IsThere objects o → (path_cell (heap_of (objects ++ more)) ops o ≡ path_cell (heap_of objects) ops o) × IsThere objects (path_cell (heap_of objects) ops o)
  path_kept [] o there = (refl, there)
  path_kept (op ∷ ops) o there =
      let rest = path_kept ops (option_and_then (walked (heap_of objects) op) o) (step_there op o there) in
      (ap (path_cell (heap_of (objects ++ more)) ops) (step_kept op o there) ∙ rest.0, rest.1)

  asks_kept : (effect : Effect) (o : Option Cell) → IsThere objects o → cell_asks (objects ++ more) effect o ≡ cell_asks objects effect o
  asks_kept effect None there = refl
  asks_kept effect (Some c) there = ap (λ z. option_map_or (leaf_asks c effect) z []) (class_kept c there)

  module _ (regs : List Value) (points : AllPoint objects regs) where
    base_there : (b : Base) → ((g : ℕ) → b ≡ Global g → g < length image.globals) → IsThere objects (base_cell regs b)
    base_there (Reg r) there = by_option (slice_get regs r) refl
      where
        by_option : (o : Option Value) → slice_get regs r ≡ o → IsThere objects (option_and_then pointed o)
        by_option None e = tt
        by_option (Some v) e = pointed_there objects v (points r v e)
    base_there (Global g) there = global_points image objects g sound (there g refl)

    all_kept : (ls : List Lock) → HasGlobals (length image.globals) ls → all_asks (objects ++ more) regs ls ≡ all_asks objects regs ls
    all_kept [] there = refl
    all_kept (lock.Root effect ∷ ls) there = ap (λ z. asks_of objects regs (lock.Root effect) ++ z) (all_kept ls there)
    all_kept (lock.Class class effect ∷ ls) there = ap (λ z. asks_of objects regs (lock.Class class effect) ++ z) (all_kept ls there)
    all_kept (lock.Expr e effect ∷ ls) there =
        let path = path_kept e.path (base_cell regs e.base) (base_there e.base there.0) in
        ap₂ (λ a b. a ++ b) (ap (cell_asks (objects ++ more) effect) path.0 ∙ asks_kept effect (cell_denoted (heap_of objects) regs e) path.1) (all_kept ls there.1)

-- the same request over one object more, if there is capacity for it
pub request_grown : (image : Image) (objects : List Object) (cells class : ℕ) → AreWellFormed image objects → (regs : List Value) → AllPoint objects regs → (ls : List Lock) → HasGlobals (length image.globals) ls
    → request_of (made_objects objects cells class) regs ls ≡ request_of objects regs ls
request_grown image objects cells class sound regs points ls there = by_room (length objects == 65536)
  where
    by_room : (b : Bool) → request_of (if b then objects else objects ++ new_object class cells ∷ []) regs ls ≡ request_of objects regs ls
    by_room true = refl
    by_room false = ap (joined_all []) (all_kept image objects (new_object class cells ∷ []) sound regs points ls there)
