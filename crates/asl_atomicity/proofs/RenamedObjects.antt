-- What a store and a `new` make of a state with other numbers for objects has other numbers too.
use Rattle.std.proofs.Common.{◌≡◌, ◌≢◌, ℕ, ◌+◌, ◌==◌, ◌<◌, ◌≤◌, ◌++◌, Bool, true, false, set, List, [], ◌∷◌, Some, None, Ok, Err, Result, length, slice_get, refl, ap, ap₂, sym, ◌∙◌, subst, inl, inr, arith}
use Rattle.std.specs.Prelude.{if◌then◌else◌, option_map, IsSome}
use Rattle.std.specs.Option.{option_map_or}
use Rattle.std.proofs.lemmas.Bool.{cases_lt}
use Rattle.std.proofs.lemmas.Bool.Decides.{eqb_tells}
use Rattle.std.proofs.lemmas.Option.{slice_get_past, slice_get_within}
use Rattle.std.proofs.lemmas.List.{map-set, length-append}
use Rattle.asl_code.specs.declared.value.Value.{Value}
use Rattle.asl_code.specs.declared.value.Value.TheVariants.{Addr}
use Rattle.asl_code.specs.declared.value.Cell.{Cell}
use Rattle.asl_code.specs.declared.image.Image.{Image}
use Rattle.asl_lock_forest.specs.Holding.{Holding}
use Rattle.asl_machine.specs.declared.fate.Fate.TheVariants as fate
use Rattle.asl_machine.specs.declared.fault.Fault.{Fault}
use Rattle.asl_machine.specs.declared.fault.Fault.TheVariants as fault
use Rattle.asl_machine.specs.State.{Object, Activity, with_cell, written, new_object}
use Rattle.asl_machine.specs.Step.{with_fresh, having_made}
use Rattle.asl_machine.specs.StepFunction.{made_objects, make_left, store_left}
use Rattle.asl_machine.proofs.Lists.{get_same, get_other, get_before, get_last, is_there}
use Rattle.asl_machine.proofs.WellFormedHeaps.{length-written}
use Rattle.asl_atomicity.specs.Renamed.{Renaming, value_by, cell_by, object_by, activity_by, Keeps}
use Rattle.asl_atomicity.proofs.Uniform.{place_at}
use Rattle.asl_atomicity.proofs.Stores.{written_is}
use Rattle.asl_atomicity.proofs.Renaming.{made_fresh_by, ObjectsBy, HoldingBy, new_back}
use Rattle.asl_atomicity.proofs.RenamedValues.{fate_by, cell_result_by, LeftBy, replicate_by, with_regs}

module _ (p : Renaming) where
  module _ (image : Image) (t : ℕ) (a : Activity) (one other : List Object) (h g : Holding) (count : length other ≡ length one) (same : ObjectsBy p.new one other) (holds : HoldingBy p.new h g) where
    abbrev here : Activity
    here = activity_by p.new a

    -- ---- stores and new objects

    set_objects_by : (n : ℕ) (q : Object) → n < length one → (k : ℕ) → slice_get (set other (p.new n) (object_by p.new q)) (p.new k) ≡ option_map (object_by p.new) (slice_get (set one n q) k)
    set_objects_by n q there k = elim (eqb_tells k n) [
      | inl is ↦
          ap (λ z. slice_get (set other (p.new n) (object_by p.new q)) (p.new z)) is.1
          ∙ get_same other (p.new n) (object_by p.new q) (within n there)
          ∙ sym (ap (λ z. option_map (object_by p.new) (slice_get (set one n q) z)) is.1 ∙ ap (option_map (object_by p.new)) (get_same one n q there))
      | inr apart ↦
          get_other other (p.new n) (p.new k) (object_by p.new q) (λ e. apart.1 (new_back p k n e))
          ∙ same k
          ∙ sym (ap (option_map (object_by p.new)) (get_other one n k q apart.1))
    ]
      where
        within : (n : ℕ) → n < length one → p.new n < length other
        within n there =
            elim (slice_get one n) as (λ o. slice_get one n ≡ o → p.new n < length other) [
              | None ↦ λ e. (let f : false ≡ true = subst IsSome e (is_there one n there) in cc)
              | Some q ↦ λ e. slice_get_within other (p.new n) (object_by p.new q) (same n ∙ ap (option_map (object_by p.new)) e)
            ] refl

    with_cell_by : (q : Object) (offset : ℕ) (v : Value) → with_cell (object_by p.new q) offset (value_by p.new v) ≡ object_by p.new (with_cell q offset v)
    with_cell_by q offset v = ap (λ z. record { class = q.class; cells = z }) (sym (map-set (value_by p.new) q.cells offset v))

    written_by : (c : Cell) (v : Value) → ObjectsBy p.new (written one c v) (written other (cell_by p.new c) (value_by p.new v))
    written_by c v k =
        elim (slice_get one c.object) as (λ o. slice_get one c.object ≡ o → slice_get (written other (cell_by p.new c) (value_by p.new v)) (p.new k) ≡ option_map (object_by p.new) (slice_get (written one c v) k)) [
          | None ↦ λ e.
              let there : slice_get other (p.new c.object) ≡ None = same c.object ∙ ap (option_map (object_by p.new)) e in
              ap (λ o. slice_get (option_map_or (λ (q : Object). set other (p.new c.object) (with_cell q c.offset (value_by p.new v))) o other) (p.new k)) there
              ∙ same k
              ∙ sym (ap (λ o. option_map (object_by p.new) (slice_get (option_map_or (λ (q : Object). set one c.object (with_cell q c.offset v)) o one) k)) e)
          | Some q ↦ λ e.
              let there : slice_get other (p.new c.object) ≡ Some (object_by p.new q) = same c.object ∙ ap (option_map (object_by p.new)) e in
              ap (λ z. slice_get z (p.new k)) (written_is other (cell_by p.new c) (value_by p.new v) (object_by p.new q) there ∙ ap (set other (p.new c.object)) (with_cell_by q c.offset v))
              ∙ set_objects_by c.object (with_cell q c.offset v) (slice_get_within one c.object q e) k
              ∙ sym (ap (λ z. option_map (object_by p.new) (slice_get z k)) (written_is one c v q e))
        ] refl

    pub store_by : (v w : Value) (r q : Result Cell Fault) → w ≡ value_by p.new v → q ≡ cell_result_by p.new r → LeftBy p.new (store_left (place_at t a one h) v r) (store_left (place_at t here other g) w q)
    store_by v w r q e d = subst (λ z. LeftBy p.new (store_left (place_at t a one h) v r) (store_left (place_at t here other g) z q)) (sym e) (subst (λ z. LeftBy p.new (store_left (place_at t a one h) v r) (store_left (place_at t here other g) (value_by p.new v) z)) (sym d) (plain r))
      where
        plain : (r : Result Cell Fault) → LeftBy p.new (store_left (place_at t a one h) v r) (store_left (place_at t here other g) (value_by p.new v) (cell_result_by p.new r))
        plain (Ok c) = record {
          fate = refl;
          activity = refl;
          count = length-written other (cell_by p.new c) (value_by p.new v) ∙ count ∙ sym (length-written one c v);
          objects = written_by c v;
          holding = holds;
        }
        plain (Err w) = record { fate = refl; activity = refl; count = count; objects = same; holding = holds }

    module _ (globals : ℕ) (keeps : Keeps p.new globals (length one)) where
      made_by : (cells class : ℕ) → ObjectsBy p.new (made_objects one cells class) (made_objects other cells class)
      made_by cells class k =
          ap (λ n. slice_get (if n == 65536 then other else other ++ new_object class cells ∷ []) (p.new k)) count ∙ by_room (length one == 65536)
        where
          new_by : object_by p.new (new_object class cells) ≡ new_object class cells
          new_by = ap (λ z. record { class = class; cells = z }) (replicate_by p.new cells)

          more : (k : ℕ) → slice_get (other ++ new_object class cells ∷ []) (p.new k) ≡ option_map (object_by p.new) (slice_get (one ++ new_object class cells ∷ []) k)
          more k = elim (cases_lt k (length one)) [
            | inl before ↦
                elim (slice_get one k) as (λ o. slice_get one k ≡ o → slice_get (other ++ new_object class cells ∷ []) (p.new k) ≡ option_map (object_by p.new) (slice_get (one ++ new_object class cells ∷ []) k)) [
                  | None ↦ λ e. (let f : false ≡ true = subst IsSome e (is_there one k before) in cc)
                  | Some q ↦ λ e.
                      get_before other (new_object class cells ∷ []) (p.new k) (object_by p.new q) (same k ∙ ap (option_map (object_by p.new)) e)
                      ∙ sym (ap (option_map (object_by p.new)) (get_before one (new_object class cells ∷ []) k q e))
                ] refl
            | inr past ↦ elim (eqb_tells k (length one)) [
              | inl is ↦
                  let number : p.new k ≡ length other = keeps.later k past ∙ is.1 ∙ sym count in
                  ap (slice_get (other ++ new_object class cells ∷ [])) number
                  ∙ get_last other (new_object class cells)
                  ∙ ap Some (sym new_by)
                  ∙ sym (ap (λ z. option_map (object_by p.new) (slice_get (one ++ new_object class cells ∷ []) z)) is.1 ∙ ap (option_map (object_by p.new)) (get_last one (new_object class cells)))
              | inr apart ↦
                  let beyond = past_end (length one) k past apart.1 in
                  ap (slice_get (other ++ new_object class cells ∷ [])) (keeps.later k past)
                  ∙ slice_get_past (other ++ new_object class cells ∷ []) k (subst (λ n. n ≤ k) (sym (length-append other (new_object class cells ∷ []) ∙ ap (λ n. n + 1) count)) beyond)
                  ∙ sym (ap (option_map (object_by p.new)) (slice_get_past (one ++ new_object class cells ∷ []) k (subst (λ n. n ≤ k) (sym (length-append one (new_object class cells ∷ []))) beyond)))
            ]
          ]
            where
              past_end : (n k : ℕ) → n ≤ k → k ≢ n → n + 1 ≤ k
              past_end n k le ne = omega (arith, le, ne)

          by_room : (b : Bool) → slice_get (if b then other else other ++ new_object class cells ∷ []) (p.new k) ≡ option_map (object_by p.new) (slice_get (if b then one else one ++ new_object class cells ∷ []) k)
          by_room true = same k
          by_room false = more k

      pub make_by : (to cells class : ℕ) → LeftBy p.new (make_left image.version (place_at t a one h) to cells class) (make_left image.version (place_at t here other g) to cells class)
      make_by to cells class = record {
        fate = ap (λ n. if n == 65536 then fate.Fails fault.Full else fate.Continues) count ∙ fate_room (length one == 65536);
        activity = ap (λ n. if n == 65536 then here else having here n) count ∙ activity_room (length one == 65536);
        count = ap (λ n. length (if n == 65536 then other else other ++ new_object class cells ∷ [])) count ∙ count_room (length one == 65536);
        objects = made_by cells class;
        holding = holds;
      }
        where
          having : Activity → ℕ → Activity
          having b n = having_made image.version b to n

          fate_room : (b : Bool) → (if b then fate.Fails fault.Full else fate.Continues) ≡ fate_by p.new (if b then fate.Fails fault.Full else fate.Continues)
          fate_room true = refl
          fate_room false = refl

          activity_room : (b : Bool) → (if b then here else having here (length one)) ≡ activity_by p.new (if b then a else having a (length one))
          activity_room true = refl
          activity_room false =
              ap (having here) (sym (keeps.later (length one) (le_self (length one))))
              ∙ ap₂ (λ regs fresh. with_fresh fresh (with_regs here a.depth (a.top.pc + 1) regs)) (sym (map-set (value_by p.new) a.top.regs to (Addr (length one) 0))) (made_fresh_by p.new image.version a.depth (length one) a.fresh)
            where
              le_self : (n : ℕ) → n ≤ n
              le_self n = omega arith

          count_room : (b : Bool) → length (if b then other else other ++ new_object class cells ∷ []) ≡ length (if b then one else one ++ new_object class cells ∷ [])
          count_room true = count
          count_room false = length-append other (new_object class cells ∷ []) ∙ ap (λ n. n + 1) count ∙ sym (length-append one (new_object class cells ∷ []))
