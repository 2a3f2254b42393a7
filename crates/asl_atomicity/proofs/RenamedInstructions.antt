-- What each instruction leaves of a state with other numbers for objects is what it leaves of the state itself, with other numbers.
use Rattle.std.proofs.Common.{◌≡◌, ℕ, ◌+◌, ◌-◌, ◌==◌, ◌++◌, Bool, true, false, replicate, List, [], ◌∷◌, Option, Some, None, Ok, length, unwrap_or, refl, ap, ap₂, sym, ◌∙◌, subst, take, drop, pos}
use Rattle.std.specs.Prelude.{if◌then◌else◌, map as each}
use Rattle.std.proofs.lemmas.List.{map-append, length-map, map-set, take-map, drop-map}
use Rattle.asl_code.specs.declared.value.Value.{Value}
use Rattle.asl_code.specs.declared.value.Value.TheVariants.{Int, Null, Addr}
use Rattle.asl_code.specs.declared.value.Effect.TheVariants.{Read, Write}
use Rattle.asl_code.specs.declared.instr.Instr.{Instr}
use Rattle.asl_code.specs.declared.instr.Instr.TheVariants as instr
use Rattle.asl_code.specs.declared.image.Image.{Image}
use Rattle.asl_code.specs.declared.image.Function.{Function}
use Rattle.asl_code.specs.Fits.{FitsInstr}
use Rattle.asl_lock_forest.specs.Holding.{Holding, Request, can_grant, grant, release}
use Rattle.asl_machine.specs.declared.fate.Fate.{Fate}
use Rattle.asl_machine.specs.declared.fate.Fate.TheVariants as fate
use Rattle.asl_machine.specs.declared.fault.Fault.TheVariants as fault
use Rattle.asl_machine.specs.State.{Object, Frame, Activity}
use Rattle.asl_machine.specs.Calls.{function_of, first_registers, values_from, frame_count, with_result}
use Rattle.asl_machine.specs.Cover.{cover}
use Rattle.asl_machine.specs.Request.{request_of, locks_of}
use Rattle.asl_code.specs.Bodies.{first_of}
use Rattle.asl_machine.specs.Step.{is_zero, advanced, going_on, called, left_last}
use Rattle.asl_machine.specs.StepFunction.{register_of, truth, added, subtracted, compared, same_value, address_moved, accessed, loaded, jump_left, show_left, call_left, return_left, acquire_fate, activity_moved, holding_acquired, acquire_left, release_left, left_by}
use Rattle.asl_atomicity.specs.Renamed.{Renaming, value_by, frame_by, activity_by, Keeps}
use Rattle.asl_atomicity.proofs.Uniform.{place_at}
use Rattle.asl_atomicity.proofs.RenamedValues.{fate_by, LeftBy, with_regs, replicate_by, set_by, reg_by, operate_by, truth_by, same_value_by, moved_address_by, accessed_register, loaded_by}
use Rattle.asl_atomicity.proofs.RenamedObjects.{store_by, make_by}
use Rattle.asl_atomicity.proofs.Renaming.{ObjectsBy, HoldingBy, request_by, has_globals, release_by, grant_by, can_grant_by}
use Rattle.asl_atomicity.proofs.RenamedHeaps.{request_of_by}

module _ (p : Renaming) where
  module _ (image : Image) (t : ℕ) (a : Activity) (one other : List Object) (h g : Holding) (count : length other ≡ length one) (same : ObjectsBy p.new one other) (holds : HoldingBy p.new h g) where
    abbrev there : Activity
    there = activity_by p.new a

    abbrev held : ℕ → Value
    held r = register_of a.top r

    -- ---- control

    zero_by : (v : Value) → is_zero (value_by p.new v) ≡ is_zero v
    zero_by (Int n) = refl
    zero_by Null = refl
    zero_by (Addr o i) = refl

    jump_by : (from to : ℕ) → to ≡ from → LeftBy p.new (jump_left (place_at t a one h) from) (jump_left (place_at t there other g) to)
    jump_by from to e = record {
      fate = refl;
      activity = ap (λ z. with_regs there a.depth z there.top.regs) e;
      count = count;
      objects = same;
      holding = holds;
    }

    show_by : (v w : Value) → w ≡ value_by p.new v → LeftBy p.new (show_left (place_at t a one h) v) (show_left (place_at t there other g) w)
    show_by v w e = record { fate = ap fate.Shows e; activity = refl; count = count; objects = same; holding = holds }

    frames_by : frame_count there ≡ frame_count a
    frames_by = ap (λ n. n + 1) (length-map a.below (frame_by p.new))

    first_registers_by : (arguments : List Value) (n : ℕ) → first_registers (each (value_by p.new) arguments) n ≡ each (value_by p.new) (first_registers arguments n)
    first_registers_by arguments n =
        ap (λ k. each (value_by p.new) arguments ++ replicate (n - k) (Int (pos 0))) (length-map arguments (value_by p.new))
        ∙ ap (λ z. each (value_by p.new) arguments ++ z) (sym (replicate_by p.new (n - length arguments)))
        ∙ sym (map-append (value_by p.new) arguments (replicate (n - length arguments) (Int (pos 0))))

    values_from_by : (first n : ℕ) → values_from (each (value_by p.new) a.top.regs) first n ≡ each (value_by p.new) (values_from a.top.regs first n)
    values_from_by first n = ap (take n) (drop-map (value_by p.new) first a.top.regs) ∙ take-map (value_by p.new) n (drop first a.top.regs)

    call_by : (to first function : ℕ) → LeftBy p.new (call_left image (place_at t a one h) to first function) (call_left image (place_at t there other g) to first function)
    call_by to first function = record {
      fate = ap (λ n. if n == 256 then fate.Fails fault.Stack else fate.Continues) frames_by ∙ fate_room (frame_count a == 256);
      activity = ap (λ n. if n == 256 then there else calling (values_from there.top.regs first params)) frames_by ∙ activity_room (frame_count a == 256);
      count = count;
      objects = same;
      holding = holds;
    }
      where
        params : ℕ
        params = (function_of image function).params

        new_top : List Value → Frame
        new_top regs = record { function = function; pc = first_of image.functions function; regs = regs; result = Some to }

        above : List Value → Activity
        above regs = record { depth = a.depth; top = new_top regs; below = advanced there.top ∷ there.below; fresh = there.fresh }

        calling : List Value → Activity
        calling arguments = above (first_registers arguments (function_of image function).regs)

        fate_room : (b : Bool) → (if b then fate.Fails fault.Stack else fate.Continues) ≡ fate_by p.new (if b then fate.Fails fault.Stack else fate.Continues)
        fate_room true = refl
        fate_room false = refl

        activity_room : (b : Bool) → (if b then there else calling (values_from there.top.regs first params)) ≡ activity_by p.new (if b then a else called image a to first function)
        activity_room true = refl
        activity_room false =
            ap calling (values_from_by first params)
            ∙ ap above (first_registers_by (values_from a.top.regs first params) (function_of image function).regs)

    result_by : (result : Option ℕ) (v : Value) (frame : Frame) → with_result result (value_by p.new v) (frame_by p.new frame) ≡ frame_by p.new (with_result result v frame)
    result_by None v frame = refl
    result_by (Some r) v frame = ap (λ z. record { function = frame.function; pc = frame.pc; regs = z; result = frame.result }) (sym (map-set (value_by p.new) frame.regs r v))

    return_by : (v w : Value) → w ≡ value_by p.new v → (below : List Frame) → LeftBy p.new (return_left (place_at t a one h) v below) (return_left (place_at t there other g) w (each (frame_by p.new) below))
    return_by v w e below = subst (λ z. LeftBy p.new (return_left (place_at t a one h) v below) (return_left (place_at t there other g) z (each (frame_by p.new) below))) (sym e) (plain below)
      where
        ends : (b : Bool) → (if b then fate.Ends (value_by p.new v) else fate.Fails fault.Open) ≡ fate_by p.new (if b then fate.Ends v else fate.Fails fault.Open)
        ends true = refl
        ends false = refl

        plain : (below : List Frame) → LeftBy p.new (return_left (place_at t a one h) v below) (return_left (place_at t there other g) (value_by p.new v) (each (frame_by p.new) below))
        plain [] = record { fate = ends (a.depth == 0); activity = refl; count = count; objects = same; holding = holds }
        plain (caller ∷ others) = record {
          fate = refl;
          activity = ap (λ z. record { depth = a.depth; top = z; below = each (frame_by p.new) others; fresh = there.fresh }) (result_by a.top.result v caller);
          count = count;
          objects = same;
          holding = holds;
        }

    -- ---- sections

    moved_activity : (w : Fate) (depth : ℕ) → activity_moved w depth there ≡ activity_by p.new (activity_moved w depth a)
    moved_activity fate.Continues depth = refl
    moved_activity (fate.Shows v) depth = refl
    moved_activity (fate.Ends v) depth = refl
    moved_activity (fate.Fails w) depth = refl
    moved_activity fate.Waits depth = refl

    acquire_fate_by : (depth : ℕ) (free : Bool) → acquire_fate depth free ≡ fate_by p.new (acquire_fate depth free)
    acquire_fate_by depth free = by_tests (depth == 0) free (depth == 255)
      where
        by_tests : (b f d : Bool) → (if b then (if f then fate.Continues else fate.Waits) else if d then fate.Fails fault.Deep else fate.Continues) ≡ fate_by p.new (if b then (if f then fate.Continues else fate.Waits) else if d then fate.Fails fault.Deep else fate.Continues)
        by_tests true true d = refl
        by_tests true false d = refl
        by_tests false f true = refl
        by_tests false f false = refl

    acquired_by : (depth : ℕ) (free : Bool) (r : Request) → HoldingBy p.new (holding_acquired depth free t r h) (holding_acquired depth free t (request_by p.new r) g)
    acquired_by depth free r = by_tests (depth == 0) free
      where
        by_tests : (b f : Bool) → HoldingBy p.new (if b then (if f then grant h t r else h) else h) (if b then (if f then grant g t (request_by p.new r) else g) else g)
        by_tests true true = grant_by p h g holds t r
        by_tests true false = holds
        by_tests false f = holds

    acquire_by : (r q : Request) → q ≡ request_by p.new r → LeftBy p.new (acquire_left (place_at t a one h) (can_grant h t r) r) (acquire_left (place_at t there other g) (can_grant g t q) q)
    acquire_by r q e =
        subst (λ z. LeftBy p.new (acquire_left (place_at t a one h) (can_grant h t r) r) (acquire_left (place_at t there other g) (can_grant g t z) z)) (sym e)
        (subst (λ b. LeftBy p.new (acquire_left (place_at t a one h) (can_grant h t r) r) (acquire_left (place_at t there other g) b (request_by p.new r))) (sym (can_grant_by p h g holds t r)) (record {
          fate = acquire_fate_by a.depth (can_grant h t r);
          activity = moved_activity (acquire_fate a.depth (can_grant h t r)) (a.depth + 1);
          count = count;
          objects = same;
          holding = acquired_by a.depth (can_grant h t r) r;
        }))

    release_left_by : LeftBy p.new (release_left (place_at t a one h)) (release_left (place_at t there other g))
    release_left_by = record {
      fate = fate_tests (a.depth == 0);
      activity = activity_tests (a.depth == 0) (a.depth == 1);
      count = count;
      objects = same;
      holding = holding_tests (a.depth == 1);
    }
      where
        fate_tests : (b : Bool) → (if b then fate.Fails fault.NoSection else fate.Continues) ≡ fate_by p.new (if b then fate.Fails fault.NoSection else fate.Continues)
        fate_tests true = refl
        fate_tests false = refl

        activity_tests : (b c : Bool) → (if b then there else if c then left_last there else going_on there (a.depth - 1) (advanced there.top)) ≡ activity_by p.new (if b then a else if c then left_last a else going_on a (a.depth - 1) (advanced a.top))
        activity_tests true c = refl
        activity_tests false true = refl
        activity_tests false false = refl

        holding_tests : (b : Bool) → HoldingBy p.new (if b then release h t else h) (if b then release g t else g)
        holding_tests true = release_by p h g holds t
        holding_tests false = holds

    -- ---- each instruction
    module _ (keeps : Keeps p.new (length image.globals) (length one)) (n : ℕ) (function : Function) where
      pub left_both : (i : Instr) → FitsInstr image n function i → LeftBy p.new (left_by image (place_at t a one h) i) (left_by image (place_at t there other g) i)
      left_both (instr.SetInt to number) fits = set_by p image t a one other h g count same holds to (Ok (Int number)) (Ok (Int number)) refl
      left_both (instr.SetNull to) fits = set_by p image t a one other h g count same holds to (Ok Null) (Ok Null) refl
      left_both (instr.Move to from) fits = set_by p image t a one other h g count same holds to (Ok (held from)) (Ok (register_of there.top from)) (ap Ok (reg_by p image t a one other h g count same holds from))
      left_both (instr.Add to left right) fits = operate_by p image t a one other h g count same holds to left right added (λ x y. refl)
      left_both (instr.Subtract to left right) fits = operate_by p image t a one other h g count same holds to left right subtracted (λ x y. refl)
      left_both (instr.LessThan to left right) fits = operate_by p image t a one other h g count same holds to left right compared (λ x y. truth_by p image t a one other h g count same holds _)
      left_both (instr.Equals to left right) fits =
          set_by p image t a one other h g count same holds to (Ok (truth (same_value (held left) (held right)))) (Ok (truth (same_value (register_of there.top left) (register_of there.top right))))
          (ap₂ (λ x y. Ok (truth (same_value x y))) (reg_by p image t a one other h g count same holds left) (reg_by p image t a one other h g count same holds right)
          ∙ ap (λ b. Ok (truth b)) (same_value_by p image t a one other h g count same holds (held left) (held right))
          ∙ ap Ok (sym (truth_by p image t a one other h g count same holds (same_value (held left) (held right)))))
      left_both (instr.GlobalAddress to global) fits = set_by p image t a one other h g count same holds to (Ok (Addr global 0)) (Ok (Addr global 0)) (ap (λ z. Ok (Addr z 0)) (sym (keeps.globals global fits.1.0)))
      left_both (instr.FieldAddress to from places) fits =
          set_by p image t a one other h g count same holds to (address_moved one places (held from)) (address_moved other places (register_of there.top from)) (ap (address_moved other places) (reg_by p image t a one other h g count same holds from) ∙ moved_address_by p image t a one other h g count same holds places (held from))
      left_both (instr.Load to address) fits =
          set_by p image t a one other h g count same holds to (loaded one (accessed (cover h a.fresh) one t a.depth Read (held address))) (loaded other (accessed (cover g there.fresh) other t a.depth Read (register_of there.top address)))
          (ap (loaded other) (accessed_register p image t a one other h g count same holds Read address) ∙ loaded_by p image t a one other h g count same holds (accessed (cover h a.fresh) one t a.depth Read (held address)))
      left_both (instr.Store address from) fits = store_by p image t a one other h g count same holds (held from) (register_of there.top from) _ _ (reg_by p image t a one other h g count same holds from) (accessed_register p image t a one other h g count same holds Write address)
      left_both (instr.New to cells class) fits = make_by p image t a one other h g count same holds (length image.globals) keeps to cells class
      left_both (instr.Jump target) fits = jump_by target target refl
      left_both (instr.JumpIfZero test target) fits =
          jump_by (if is_zero (held test) then target else a.top.pc + 1) (if is_zero (register_of there.top test) then target else a.top.pc + 1)
          (ap (λ v. if is_zero v then target else a.top.pc + 1) (reg_by p image t a one other h g count same holds test) ∙ ap (λ b. if b then target else a.top.pc + 1) (zero_by (held test)))
      left_both (instr.Call to first callee) fits = call_by to first callee
      left_both (instr.Return from) fits = return_by (held from) (register_of there.top from) (reg_by p image t a one other h g count same holds from) a.below
      left_both (instr.Output from) fits = show_by (held from) (register_of there.top from) (reg_by p image t a one other h g count same holds from)
      left_both (instr.Acquire list) fits =
          let is : locks_of image list ≡ fits.0.0 = ap (λ o. unwrap_or o []) fits.0.1 in
          let globals = has_globals image n function fits.0.0 fits.0.2 in
          acquire_by (request_of one a.top.regs (locks_of image list)) (request_of other there.top.regs (locks_of image list))
          (ap (request_of other there.top.regs) is
          ∙ request_of_by p one other same (length image.globals) keeps.globals a.top.regs fits.0.0 globals
          ∙ ap (λ z. request_by p.new (request_of one a.top.regs z)) (sym is))
      left_both instr.Release fits = release_left_by
