-- What an instruction sets, computes, reaches and loads in a state with other numbers for objects has other numbers too.
-- Where f renames objects, x_by f is x with each object's number n as f n.
use Rattle.std.proofs.Common.{◌≡◌, ℕ, ℤ, zero, suc, ◌+◌, ◌==◌, ◌&&◌, Bool, true, false, replicate, List, ◌∷◌, Option, Some, None, Ok, Err, Result, length, unwrap_or, refl, ap, ap₂, sym, ◌∙◌, pos}
use Rattle.std.specs.Prelude.{map as each, option_map}
use Rattle.std.proofs.lemmas.List.{map-set}
use Rattle.asl_code.specs.declared.value.Value.{Value}
use Rattle.asl_code.specs.declared.value.Value.TheVariants.{Int, Null, Addr}
use Rattle.asl_code.specs.declared.value.Cell.{Cell}
use Rattle.asl_code.specs.declared.value.Effect.{Effect}
use Rattle.asl_code.specs.declared.image.Image.{Image}
use Rattle.asl_lock_forest.specs.Holding.{Holding}
use Rattle.asl_machine.specs.declared.fate.Fate.{Fate}
use Rattle.asl_machine.specs.declared.fate.Fate.TheVariants as fate
use Rattle.asl_machine.specs.declared.fault.Fault.{Fault}
use Rattle.asl_machine.specs.State.{Object, Activity, cell_at}
use Rattle.asl_machine.specs.Cover.{cover}
use Rattle.asl_machine.specs.Access.{is_protected}
use Rattle.asl_machine.specs.StepFunction.{Left, register_of, fate_of, activity_set, set_left, computed, truth, same_value, address_or_bounds, address_moved, allowed_cell, accessed, loaded}
use Rattle.asl_atomicity.specs.Renamed.{Renaming, value_by, cell_by, fault_by, activity_by}
use Rattle.asl_atomicity.proofs.Uniform.{place_at}
use Rattle.asl_atomicity.proofs.Renaming.{same_test, ObjectsBy, HoldingBy, register_by, new_back}
use Rattle.asl_atomicity.proofs.RenamedHeaps.{protected_by, cell_at_by, moved_by}

-- fates and results with other numbers
abbrev pub fate_by : (ℕ → ℕ) → Fate → Fate
fate_by f (fate.Shows v) = fate.Shows (value_by f v)
fate_by f (fate.Ends v) = fate.Ends (value_by f v)
fate_by f (fate.Fails w) = fate.Fails (fault_by f w)
fate_by f fate.Continues = fate.Continues
fate_by f fate.Waits = fate.Waits

abbrev pub value_result_by : (ℕ → ℕ) → Result Value Fault → Result Value Fault
value_result_by f (Ok v) = Ok (value_by f v)
value_result_by f (Err w) = Err (fault_by f w)

abbrev pub cell_result_by : (ℕ → ℕ) → Result Cell Fault → Result Cell Fault
cell_result_by f (Ok c) = Ok (cell_by f c)
cell_result_by f (Err w) = Err (fault_by f w)

-- what an instruction leaves, with other numbers
pub record LeftBy (f : ℕ → ℕ) (l m : Left) : Type 0 where
  pub fate : m.fate ≡ fate_by f l.fate
  pub activity : m.activity ≡ activity_by f l.activity
  pub count : length m.objects ≡ length l.objects
  pub objects : ObjectsBy f l.objects m.objects
  pub holding : HoldingBy f l.holding m.holding

pub replicate_by : (f : ℕ → ℕ) (n : ℕ) → each (value_by f) (replicate n (Int (pos 0))) ≡ replicate n (Int (pos 0))
replicate_by f zero = refl
replicate_by f (suc n) = ap (λ z. Int (pos 0) ∷ z) (replicate_by f n)

-- an activity with these registers on top
abbrev pub with_regs : Activity → ℕ → ℕ → List Value → Activity
with_regs a depth pc regs = record { depth = depth; top = record { function = a.top.function; pc = pc; regs = regs; result = a.top.result }; below = a.below; fresh = a.fresh }

module _ (p : Renaming) where
  set_activity : (a : Activity) (to : ℕ) (r : Result Value Fault) → activity_set (activity_by p.new a) to (value_result_by p.new r) ≡ activity_by p.new (activity_set a to r)
  set_activity a to (Ok v) = ap (with_regs (activity_by p.new a) a.depth (a.top.pc + 1)) (sym (map-set (value_by p.new) a.top.regs to v))
  set_activity a to (Err w) = refl

  set_fate : (r : Result Value Fault) → fate_of (value_result_by p.new r) ≡ fate_by p.new (fate_of r)
  set_fate (Ok v) = refl
  set_fate (Err w) = refl

  module _ (image : Image) (t : ℕ) (a : Activity) (one other : List Object) (h g : Holding) (count : length other ≡ length one) (same : ObjectsBy p.new one other) (holds : HoldingBy p.new h g) where
    abbrev pub here : Activity
    here = activity_by p.new a

    pub set_by : (to : ℕ) (r q : Result Value Fault) → q ≡ value_result_by p.new r → LeftBy p.new (set_left (place_at t a one h) to r) (set_left (place_at t here other g) to q)
    set_by to r q e = record {
      fate = ap fate_of e ∙ set_fate r;
      activity = ap (activity_set here to) e ∙ set_activity a to r;
      count = count;
      objects = same;
      holding = holds;
    }

    abbrev pub reg : ℕ → Value
    reg r = register_of a.top r

    pub reg_by : (r : ℕ) → register_of here.top r ≡ value_by p.new (reg r)
    reg_by r = register_by p.new a.top.regs r

    computed_by : (operation : ℤ → ℤ → Value) → ((m n : ℤ) → value_by p.new (operation m n) ≡ operation m n) → (x y : Value) → computed operation (value_by p.new x) (value_by p.new y) ≡ value_result_by p.new (computed operation x y)
    computed_by operation plain (Int m) (Int n) = ap Ok (sym (plain m n))
    computed_by operation plain (Int m) Null = refl
    computed_by operation plain (Int m) (Addr o i) = refl
    computed_by operation plain Null y = refl
    computed_by operation plain (Addr o i) y = refl

    pub operate_by : (to left right : ℕ) (operation : ℤ → ℤ → Value) → ((m n : ℤ) → value_by p.new (operation m n) ≡ operation m n) →
        LeftBy p.new (set_left (place_at t a one h) to (computed operation (reg left) (reg right))) (set_left (place_at t here other g) to (computed operation (register_of here.top left) (register_of here.top right)))
    operate_by to left right operation plain =
        set_by to _ _ (ap₂ (computed operation) (reg_by left) (reg_by right) ∙ computed_by operation plain (reg left) (reg right))

    pub truth_by : (b : Bool) → value_by p.new (truth b) ≡ truth b
    truth_by true = refl
    truth_by false = refl

    pub same_value_by : (x y : Value) → same_value (value_by p.new x) (value_by p.new y) ≡ same_value x y
    same_value_by (Int m) (Int n) = refl
    same_value_by (Int m) Null = refl
    same_value_by (Int m) (Addr o i) = refl
    same_value_by Null (Int n) = refl
    same_value_by Null Null = refl
    same_value_by Null (Addr o i) = refl
    same_value_by (Addr o i) (Int n) = refl
    same_value_by (Addr o i) Null = refl
    same_value_by (Addr o i) (Addr q j) = ap (λ b. b && i == j) (same_test (p.new o) (p.new q) o q (new_back p o q) (ap p.new))

    bounds_by : (o : Option Cell) → address_or_bounds (option_map (cell_by p.new) o) ≡ value_result_by p.new (address_or_bounds o)
    bounds_by None = refl
    bounds_by (Some c) = refl

    pub moved_address_by : (places : ℕ) (v : Value) → address_moved other places (value_by p.new v) ≡ value_result_by p.new (address_moved one places v)
    moved_address_by places (Int n) = refl
    moved_address_by places Null = refl
    moved_address_by places (Addr o i) = ap address_or_bounds (moved_by p one other same places (record { object = o; offset = i })) ∙ bounds_by _

    accessed_by : (effect : Effect) (v : Value) → accessed (cover g here.fresh) other t a.depth effect (value_by p.new v) ≡ cell_result_by p.new (accessed (cover h a.fresh) one t a.depth effect v)
    accessed_by effect (Int n) = refl
    accessed_by effect Null = refl
    accessed_by effect (Addr o i) =
        let c : Cell = record { object = o; offset = i } in
        ap (λ b. allowed_cell b effect (cell_by p.new c)) (protected_by p one other same h g holds a.fresh t a.depth effect c) ∙ by_test c (is_protected (cover h a.fresh) one t a.depth effect c)
      where
        by_test : (c : Cell) (b : Bool) → allowed_cell b effect (cell_by p.new c) ≡ cell_result_by p.new (allowed_cell b effect c)
        by_test c true = refl
        by_test c false = refl

    pub accessed_register : (effect : Effect) (r : ℕ) → accessed (cover g here.fresh) other t a.depth effect (register_of here.top r) ≡ cell_result_by p.new (accessed (cover h a.fresh) one t a.depth effect (reg r))
    accessed_register effect r = ap (accessed (cover g here.fresh) other t a.depth effect) (reg_by r) ∙ accessed_by effect (reg r)

    abbrev pub loaded_as : Value → Result Value Fault
    loaded_as v = Ok v

    pub loaded_by : (r : Result Cell Fault) → loaded other (cell_result_by p.new r) ≡ value_result_by p.new (loaded one r)
    loaded_by (Err w) = refl
    loaded_by (Ok c) = ap (λ o. Ok (unwrap_or o Null)) (cell_at_by p one other same c) ∙ by_option (cell_at one c)
      where
        by_option : (o : Option Value) → loaded_as (unwrap_or (option_map (value_by p.new) o) Null) ≡ loaded_as (value_by p.new (unwrap_or o Null))
        by_option None = refl
        by_option (Some v) = refl
