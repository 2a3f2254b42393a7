-- What a value points to is there and stays there, so objects that are well formed are so after a store and with a new object.
use Rattle.std.proofs.Common.{◌≡◌, ℕ, ◌+◌, ◌<◌, ◌≤◌, ◌⊎◌, ◌++◌, true, false, cond, ltb, replicate, pos, List, [], ◌∷◌, Option, Some, None, IfOk, length, set, slice_get, refl, ap, sym, ◌∙◌, subst, inl, inr, arith, length-set}
use Rattle.std.specs.Prelude.{IsSome, option_map, option_and_then}
use Rattle.std.specs.Option.{option_map_or}
use Rattle.std.proofs.lemmas.Bool.{ltb-true}
use Rattle.std.proofs.lemmas.List.{length_push, length-replicate}
use Rattle.std.proofs.lemmas.Option.{slice_get_within, slice_get_cases}
use Rattle.asl_code.specs.declared.image.Image.{Image}
use Rattle.asl_code.specs.declared.value.Value.{Value}
use Rattle.asl_code.specs.declared.value.Value.TheVariants.{Int, Null, Addr}
use Rattle.asl_code.specs.declared.value.Cell.{Cell}
use Rattle.asl_machine.specs.State.{Object, cell_at, class_of, size_of, with_cell, written, new_object}
use Rattle.asl_expression.specs.Expression.{cell_of, pointed}
use Rattle.asl_machine.specs.StepFunction.{address_or_bounds, address_moved}
use Rattle.asl_machine.specs.Access.{Points}
use Rattle.asl_machine.specs.WellFormed.{AreWellFormed}
use Rattle.asl_machine.proofs.Lists.{one_more, replicated, get_before, get_last, is_there}
use Rattle.asl_machine.proofs.Heaps.{class_of-written, size_of-written, some_is, cell_from, cell_kept, cell_either, object_there}

-- a value that points to a cell is an address in the cell's object
pub pointed_value : (v : Value) (next : Cell) → pointed v ≡ Some next → (i : ℕ) × (v ≡ Addr next.object i)
pointed_value (Int n) next e = cc
pointed_value Null next e = cc
pointed_value (Addr o i) next e = let is : cell_of o i ≡ next = cc in (i, ap (λ (k : Cell). Addr k.object i) is)

-- what points somewhere points to an object that is there
pub points_within : (objects : List Object) (o i : ℕ) → Points objects (Addr o i) → o < length objects
points_within objects o i p =
    elim (cell_at objects (cell_of o i)) as (λ x. cell_at objects (cell_of o i) ≡ x → IsSome x → o < length objects) [
      | None ↦ λ is f. let g = f in cc
      | Some v ↦ λ is f. object_there objects (cell_of o i) v is
    ] refl p

-- what pointed to a cell still does
pub points_kept : (objects : List Object) (c : Cell) (v w : Value) → Points objects w → Points (written objects c v) w
points_kept objects c v (Int number) h = tt
points_kept objects c v Null h = tt
points_kept objects c v (Addr object offset) h = cell_kept objects c v (cell_of object offset) h

-- a store makes no object and drops none
pub length-written : (objects : List Object) (c : Cell) (v : Value) → length (written objects c v) ≡ length objects
length-written objects c v =
    elim (slice_get objects c.object) as (λ o. length (option_map_or (λ (object : Object). set objects c.object (with_cell object c.offset v)) o objects) ≡ length objects) [
      | None ↦ refl
      | Some o ↦ length-set objects c.object (with_cell o c.offset v)
    ]

-- sound objects are sound after a store of an address of a cell that is there
pub sound_written : (image : Image) (objects : List Object) (c : Cell) (v : Value) → AreWellFormed image objects → Points objects v → AreWellFormed image (written objects c v)
sound_written image objects c v sound p = record {
  classes = λ n class e. sound.classes n class (sym (class_of-written objects c v n) ∙ e);
  points = λ x w e. elim (cell_either objects c v x w e) [
    | inl is ↦ points_kept objects c v w (subst (Points objects) (sym is) p)
    | inr old ↦ points_kept objects c v w (sound.points x w old)
  ];
  sizes = λ n size e. sound.sizes n size (sym (size_of-written objects c v n) ∙ e);
  few = let l = length-written objects c v in let k = sound.few in omega arith;
  globals = λ g class e. let h = sound.globals g class e in (class_of-written objects c v g ∙ h.0, size_of-written objects c v g ∙ h.1);
}

-- ---- one object more

-- what is read of the objects after one more is made was there, or is read of that one
either_made : {B : Type 0} (g : Option Object → Option B) (objects : List Object) (o : Object) (n : ℕ) (b : B) → g None ≡ None → g (slice_get (objects ++ o ∷ []) n) ≡ Some b →
    (g (slice_get objects n) ≡ Some b) ⊎ (g (Some o) ≡ Some b)
either_made g objects o n b none e =
    elim (slice_get (objects ++ o ∷ []) n) as (λ x. slice_get (objects ++ o ∷ []) n ≡ x → g x ≡ Some b → (g (slice_get objects n) ≡ Some b) ⊎ (g (Some o) ≡ Some b)) [
      | None ↦ λ f k. let bad = sym none ∙ k in cc
      | Some p ↦ λ f k. elim (one_more objects o p n f) [
        | inl before ↦ inl (ap g before ∙ k)
        | inr is ↦ inr (ap (λ (q : Object). g (Some q)) (sym is) ∙ k)
      ]
    ] refl e

-- a cell that is there is there when more objects are made
pub cell_before : (objects more : List Object) (x : Cell) → IsSome (cell_at objects x) → IsSome (cell_at (objects ++ more) x)
cell_before objects more x h =
    elim (slice_get objects x.object) as (λ o. slice_get objects x.object ≡ o → IsSome (option_and_then (λ (p : Object). slice_get p.cells x.offset) o) → IsSome (cell_at (objects ++ more) x)) [
      | None ↦ λ e k. let f = k in cc
      | Some p ↦ λ e k. some_is _ _ (sym (ap (option_and_then (λ (q : Object). slice_get q.cells x.offset)) (get_before objects more x.object p e))) k
    ] refl h

-- a cell that is there holds what it held when more objects are made
pub value_before : (objects more : List Object) (x : Cell) (v : Value) → cell_at objects x ≡ Some v → cell_at (objects ++ more) x ≡ Some v
value_before objects more x v e =
    elim (slice_get objects x.object) as (λ o. slice_get objects x.object ≡ o → option_and_then (λ (p : Object). slice_get p.cells x.offset) o ≡ Some v → cell_at (objects ++ more) x ≡ Some v) [
      | None ↦ λ is f. cc
      | Some p ↦ λ is f. cell_from _ x.offset p (get_before objects more x.object p is) ∙ f
    ] refl e

-- what is told of an object that is there is told of it when more are made
pub read_before : {B : Type 0} (f : Object → B) (objects more : List Object) (n : ℕ) (b : B) → option_map f (slice_get objects n) ≡ Some b → option_map f (slice_get (objects ++ more) n) ≡ Some b
read_before f objects more n b h =
    elim (slice_get objects n) as (λ o. slice_get objects n ≡ o → option_map f o ≡ Some b → option_map f (slice_get (objects ++ more) n) ≡ Some b) [
      | None ↦ λ e k. cc
      | Some p ↦ λ e k. ap (option_map f) (get_before objects more n p e) ∙ k
    ] refl h

-- an object that has a cell has a first one
first_there : (objects : List Object) (n size : ℕ) → size_of objects n ≡ Some size → 0 < size → IsSome (cell_at objects (cell_of n 0))
first_there objects n size h some =
    elim (slice_get objects n) as (λ o. slice_get objects n ≡ o → option_map (λ (p : Object). length p.cells) o ≡ Some size → IsSome (cell_at objects (cell_of n 0))) [
      | None ↦ λ e k. cc
      | Some p ↦ λ e k.
          let same : length p.cells ≡ size = cc in some_is _ _ (sym (cell_from _ 0 p e)) (is_there p.cells 0 (omega arith))
    ] refl h

-- the address of a global is that of a cell that is there
pub global_points : (image : Image) (objects : List Object) (g : ℕ) → AreWellFormed image objects → g < length image.globals → Points objects (Addr g 0)
global_points image objects g sound lt =
    elim (slice_get_cases image.globals g).1 [
      | inl found ↦ first_there objects g 1 (sound.globals g found.0 found.2).1 (omega arith)
      | inr past ↦ let le : length image.globals ≤ g = past.0 in absurd (omega arith)
    ]

-- there are as many objects as globals, at least
pub many_globals : (image : Image) (objects : List Object) → AreWellFormed image objects → length image.globals ≤ length objects
many_globals image objects sound =
    elim (slice_get_cases image.globals (length objects)).1 [
      | inl found ↦ absurd (past objects found.0 (sound.globals (length objects) found.0 found.2).0)
      | inr le ↦ le.0
    ]
  where
    past : (objects : List Object) (class : ℕ) → class_of objects (length objects) ≡ Some class → ⊥
    past objects class e =
        elim (slice_get objects (length objects)) as (λ o. slice_get objects (length objects) ≡ o → option_map (λ (p : Object). p.class) o ≡ Some class → ⊥) [
          | None ↦ λ is f. cc
          | Some p ↦ λ is f. let lt = slice_get_within objects (length objects) p is in omega (arith, lt)
        ] refl e

-- what pointed to a cell still does
pub points_before : (objects more : List Object) (w : Value) → Points objects w → Points (objects ++ more) w
points_before objects more (Int number) h = tt
points_before objects more Null h = tt
points_before objects more (Addr object offset) h = cell_before objects more (cell_of object offset) h

-- a number points nowhere, so it points to nothing that is missing
zero_points : (objects : List Object) (w : Value) → w ≡ Int (pos 0) → Points objects w
zero_points objects w e = subst (Points objects) (sym e) tt

-- sound objects are sound with one more
pub sound_made : (image : Image) (objects : List Object) (class cells : ℕ) → AreWellFormed image objects → class < image.classes → 0 < cells → length objects < 65536 →
    AreWellFormed image (objects ++ new_object class cells ∷ [])
sound_made image objects class cells sound lt some room =
    let more = objects ++ new_object class cells ∷ [] in
    record {
      classes = λ n c e. elim (either_made (option_map (λ (o : Object). o.class)) objects (new_object class cells) n c refl e) [
        | inl before ↦ sound.classes n c before
        | inr is ↦ let same : class ≡ c = cc in omega arith
      ];
      points = λ x w e. elim (either_made (option_and_then (λ (o : Object). slice_get o.cells x.offset)) objects (new_object class cells) x.object w refl e) [
        | inl before ↦ points_before objects (new_object class cells ∷ []) w (sound.points x w before)
        | inr is ↦ zero_points more w (replicated cells x.offset (Int (pos 0)) w is)
      ];
      sizes = λ n size e. elim (either_made (option_map (λ (o : Object). length o.cells)) objects (new_object class cells) n size refl e) [
        | inl before ↦ sound.sizes n size before
        | inr is ↦ let same : length (replicate {A = Value} cells (Int (pos 0))) ≡ size = cc in let l = length-replicate cells (Int (pos 0)) in omega arith
      ];
      few = let l = length_push objects (new_object class cells) in omega arith;
      globals = λ g c e.
          let h = sound.globals g c e in (
            read_before (λ (o : Object). o.class) objects (new_object class cells ∷ []) g c h.0,
            read_before (λ (o : Object). length o.cells) objects (new_object class cells ∷ []) g 1 h.1,
          );
    }

-- the first cell of the object that was made is there
pub made_points : (objects : List Object) (class cells : ℕ) → 0 < cells → Points (objects ++ new_object class cells ∷ []) (Addr (length objects) 0)
made_points objects class cells some =
    let l = length-replicate cells (Int (pos 0)) in
    some_is _ _ (sym (cell_from _ 0 (new_object class cells) (get_last objects (new_object class cells))))
    (is_there (replicate cells (Int (pos 0))) 0 (omega arith))

-- an address so many cells on is that of a cell that is there
pub moved_points : (objects : List Object) (places : ℕ) (v : Value) → IfOk (address_moved objects places v) (Points objects)
moved_points objects places (Int number) = tt
moved_points objects places Null = tt
moved_points objects places (Addr o i) =
    elim (slice_get objects o) as (λ x. slice_get objects o ≡ x →
    IfOk (address_or_bounds (option_and_then (λ size. cond (ltb (i + places) size) (Some (cell_of o (i + places))) None) (option_map (λ (p : Object). length p.cells) x))) (Points objects)) [
      | None ↦ λ e. tt
      | Some p ↦ λ e.
          elim (ltb (i + places) (length p.cells)) as (λ b. ltb (i + places) (length p.cells) ≡ b → IfOk (address_or_bounds (cond b (Some (cell_of o (i + places))) None)) (Points objects)) [
            | true ↦ λ k. some_is _ _ (sym (cell_from _ (i + places) p e)) (is_there p.cells (i + places) (ltb-true _ _ k))
            | false ↦ λ k. tt
          ] refl
    ] refl
