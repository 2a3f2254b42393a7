-- For each kind of line in the table: a reply and a state that the line allows are those that the computed instruction leaves, by
-- what its tests tell.
use Rattle.std.proofs.Common.{◌≡◌, ℕ, ℤ, pos, ◌+◌, ◌-◌, ◌<◌, ◌==◌, ◌++◌, ◌∷◌, ltb, Bool, true, false, cond, List, [], Some, None, Result, Ok, Err, length, refl, ap, sym, ◌∙◌, subst, arith, eq-eqb, ne_eqb}
use Rattle.std.specs.Prelude.{unwrap_or}
use Rattle.std.specs.Prelude.{int_lt, ◌<ℤ◌, option_and_then}
use Rattle.std.proofs.lemmas.Int.{ints}
use Rattle.asl_code.specs.declared.value.Value.{Value}
use Rattle.asl_code.specs.declared.value.Value.TheVariants.{Int, Null, Addr}
use Rattle.asl_code.specs.declared.value.Cell.{Cell}
use Rattle.asl_code.specs.declared.value.Effect.{Effect}
use Rattle.asl_lock_forest.specs.Holding.{Holding, Request, grant, release}
use Rattle.asl_machine.specs.declared.fate.Fate.TheVariants as fate
use Rattle.asl_machine.specs.declared.fault.Fault.{Fault}
use Rattle.asl_machine.specs.declared.fault.Fault.TheVariants as fault
use Rattle.asl_machine.specs.declared.reply.Reply.{Reply}
use Rattle.asl_machine.specs.declared.reply.Reply.TheVariants as reply
use Rattle.asl_machine.specs.State.{Object, Frame, Running, State, cell_at, size_of, new_object}
use Rattle.asl_machine.specs.Calls.{frame_count, with_register, with_result}
use Rattle.asl_machine.specs.Cover.{cover}
use Rattle.asl_expression.specs.Expression.{cell_of}
use Rattle.asl_machine.specs.Request.{locks_of, request_of}
use Rattle.asl_machine.specs.Step.{At, advanced, going_on, called, returned, having_made, left_last, after, Reads, ReadsAddress, is_allowed, Sets, ContinuesAt, GoesTo, Fails, are_integers, FailsIntegers, is_zero, ReturnsTo, Asks}
use Rattle.asl_machine.specs.StepFunction.{Left, set_left, computed, compared, truth, same_value, jump_left, address_or_bounds, address_moved, make_left, allowed_cell, loaded, accessed, accessed_by, store_left, left_alone, return_fate, call_left, return_left, activity_moved, acquire_left, release_left, turn_by, register_of}
use Rattle.asl_machine.proofs.InstrGroups.{here_place}

-- the reply and the state are those that an instruction leaves
abbrev pub IsLeft : At → Left → Reply → State → Type 0
IsLeft at l r n = let turn = turn_by at.thread l in (r ≡ turn.reply) × (n ≡ after at.state at.thread turn.thread turn.objects turn.holding)

-- what the line reads in a register is what the computed instruction reads
pub reads_is : (at : At) (r : ℕ) (v : Value) → Reads at r v → register_of at.activity.top r ≡ v
reads_is at r v e = ap (λ o. unwrap_or o Null) e

-- a line that sets a register, and one that fails for the value
pub only_set : (at : At) (to : ℕ) (value : Result Value Fault) (v : Value) (n : State) → value ≡ Ok v → Sets at to v n → IsLeft at (set_left (here_place at.state at.thread at.activity) to value) reply.Ran n
only_set at to value v n e h = subst (λ x. IsLeft at (set_left (here_place at.state at.thread at.activity) to x) reply.Ran n) (sym e) (refl, h)

pub only_unset : (at : At) (to : ℕ) (value : Result Value Fault) (f : Fault) (n : State) → value ≡ Err f → Fails at f n → IsLeft at (set_left (here_place at.state at.thread at.activity) to value) (reply.Fault f) n
only_unset at to value f n e h = subst (λ x. IsLeft at (set_left (here_place at.state at.thread at.activity) to x) (reply.Fault f) n) (sym e) (refl, h)

-- a store that fails for its target
pub only_unstored : (at : At) (v : Value) (target : Result Cell Fault) (f : Fault) (n : State) → target ≡ Err f → Fails at f n → IsLeft at (store_left (here_place at.state at.thread at.activity) v target) (reply.Fault f) n
only_unstored at v target f n e h = subst (λ x. IsLeft at (store_left (here_place at.state at.thread at.activity) v x) (reply.Fault f) n) (sym e) (refl, h)

computed_is : (at : At) (operation : ℤ → ℤ → Value) (left right : ℕ) (x y : Value) → Reads at left x → Reads at right y →
    computed operation (register_of at.activity.top left) (register_of at.activity.top right) ≡ computed operation x y
computed_is at operation left right x y p q = λ i. computed operation (reads_is at left x p i) (reads_is at right y q i)

-- no operation on what is no pair of integers
not_computed : (operation : ℤ → ℤ → Value) (x y : Value) → are_integers x y ≡ false → computed operation x y ≡ Err fault.BadType
not_computed operation (Int x) (Int y) e = cc
not_computed operation (Int x) Null e = refl
not_computed operation (Int x) (Addr o i) e = refl
not_computed operation Null y e = refl
not_computed operation (Addr o i) y e = refl

-- an operation on two integers, and on others
pub only_computed : (at : At) (operation : ℤ → ℤ → Value) (to left right : ℕ) (x y : ℤ) (v : Value) (n : State) → Reads at left (Int x) → Reads at right (Int y) → operation x y ≡ v → Sets at to v n →
    IsLeft at (set_left (here_place at.state at.thread at.activity) to (computed operation (register_of at.activity.top left) (register_of at.activity.top right))) reply.Ran n
only_computed at operation to left right x y v n p q e h =
    only_set at to _ v n (computed_is at operation left right (Int x) (Int y) p q ∙ ap {A = Value} {B = Result Value Fault} (λ w. Ok w) e) h

pub only_uncomputed : (at : At) (operation : ℤ → ℤ → Value) (to left right : ℕ) (n : State) → FailsIntegers at left right n →
    IsLeft at (set_left (here_place at.state at.thread at.activity) to (computed operation (register_of at.activity.top left) (register_of at.activity.top right))) (reply.Fault fault.BadType) n
only_uncomputed at operation to left right n h =
    only_unset at to _ fault.BadType n (computed_is at operation left right h.0 h.1 h.2 h.3 ∙ not_computed operation h.0 h.1 h.4.0) h.4.1

-- the answer to a test that is known
pub lower : (x y : ℤ) → x <ℤ y → compared x y ≡ Int (pos 1)
lower x y lt =
    elim (int_lt x y) as (λ b. int_lt x y ≡ b → truth b ≡ Int (pos 1)) [
      | true ↦ λ e. refl
      | false ↦ λ e. absurd (omega (arith, ints))
    ] refl

-- the answer where the first is not the lower
pub not_lower : (x y : ℤ) → ¬ (x <ℤ y) → compared x y ≡ Int (pos 0)
not_lower x y not =
    elim (int_lt x y) as (λ b. int_lt x y ≡ b → truth b ≡ Int (pos 0)) [
      | true ↦ λ e. absurd (not (omega (arith, ints)))
      | false ↦ λ e. refl
    ] refl

-- the test of two values
pub only_equal : (at : At) (to left right : ℕ) (x y : Value) (b : Bool) (n : State) → Reads at left x → Reads at right y → same_value x y ≡ b → Sets at to (truth b) n →
    IsLeft at (set_left (here_place at.state at.thread at.activity) to (Ok (truth (same_value (register_of at.activity.top left) (register_of at.activity.top right))))) reply.Ran n
only_equal at to left right x y b n p q e h =
    let tested : same_value (register_of at.activity.top left) (register_of at.activity.top right) ≡ b = (λ i. same_value (reads_is at left x p i) (reads_is at right y q i)) ∙ e in
    only_set at to _ (truth b) n (ap {A = Bool} {B = Result Value Fault} (λ t. Ok (truth t)) tested) h

-- a jump by a test of 0
pub only_jump : (at : At) (test target : ℕ) (v : Value) (b : Bool) (n : State) → Reads at test v → is_zero v ≡ b → GoesTo at (cond b target (at.activity.top.pc + 1)) n →
    IsLeft at (jump_left (here_place at.state at.thread at.activity) (cond (is_zero (register_of at.activity.top test)) target (at.activity.top.pc + 1))) reply.Ran n
only_jump at test target v b n p e h =
    let tested : is_zero (register_of at.activity.top test) ≡ b = ap is_zero (reads_is at test v p) ∙ e in
    (refl, subst (λ c. GoesTo at (cond c target (at.activity.top.pc + 1)) n) (sym tested) h)

-- an address that is moved is that of the register's value
pub moved_is : (at : At) (places from : ℕ) (v : Value) → Reads at from v → address_moved at.state.objects places (register_of at.activity.top from) ≡ address_moved at.state.objects places v
moved_is at places from v e = ap (address_moved at.state.objects places) (reads_is at from v e)

-- it is there or not by the test of the object's size
pub moved_tested : (at : At) (places from size : ℕ) (c : Cell) (b : Bool) → ReadsAddress at from c → size_of at.state.objects c.object ≡ Some size → ltb (c.offset + places) size ≡ b →
    address_moved at.state.objects places (register_of at.activity.top from) ≡ address_or_bounds (cond b (Some (cell_of c.object (c.offset + places))) None)
moved_tested at places from size c b e sized tested =
    moved_is at places from (Addr c.object c.offset) e
    ∙ ap (λ o. address_or_bounds (option_and_then (λ n. cond (ltb (c.offset + places) n) (Some (cell_of c.object (c.offset + places))) None) o)) sized
    ∙ ap (λ x. address_or_bounds (cond x (Some (cell_of c.object (c.offset + places))) None)) tested

-- what a `new` leaves, by the test of the objects
abbrev made_by : At → ℕ → ℕ → ℕ → Bool → Left
made_by at to cells class b =
    record {
      fate = cond b (fate.Fails fault.Full) fate.Continues;
      activity = cond b at.activity (having_made at.image.version at.activity to (length at.state.objects));
      objects = cond b at.state.objects (at.state.objects ++ new_object class cells ∷ []);
      holding = at.state.holding;
    }

-- a `new`, by that test
pub only_make : (at : At) (to cells class : ℕ) (b : Bool) (r : Reply) (n : State) → (length at.state.objects == 65536) ≡ b → IsLeft at (made_by at to cells class b) r n →
    IsLeft at (make_left at.image.version (here_place at.state at.thread at.activity) to cells class) r n
only_make at to cells class b r n e h = subst (λ x. IsLeft at (made_by at to cells class x) r n) (sym e) h

-- the cell that an access would have is that of the register's value
pub target_is : (at : At) (effect : Effect) (r : ℕ) (v : Value) → Reads at r v →
    accessed_by (here_place at.state at.thread at.activity) effect r ≡ accessed (cover at.state.holding at.activity.fresh) at.state.objects at.thread at.activity.depth effect v
target_is at effect r v e = ap (accessed (cover at.state.holding at.activity.fresh) at.state.objects at.thread at.activity.depth effect) (reads_is at r v e)

-- it is allowed or not by the test of the cover
pub target_allowed : (at : At) (effect : Effect) (r : ℕ) (c : Cell) (b : Bool) → ReadsAddress at r c → is_allowed at effect c ≡ b →
    accessed_by (here_place at.state at.thread at.activity) effect r ≡ allowed_cell b effect c
target_allowed at effect r c b e k = target_is at effect r (Addr c.object c.offset) e ∙ ap (λ x. allowed_cell x effect c) k

-- a load of a cell that is there, and one that fails
pub load_is : (objects : List Object) (target : Result Cell Fault) (c : Cell) (v : Value) → target ≡ Ok c → cell_at objects c ≡ Some v → loaded objects target ≡ Ok v
load_is objects target c v e k = ap (loaded objects) e ∙ ap (λ o. Ok (unwrap_or o Null)) k

pub load_fails : (objects : List Object) (target : Result Cell Fault) (f : Fault) → target ≡ Err f → loaded objects target ≡ Err f
load_fails objects target f e = ap (loaded objects) e

-- a depth of which a test is known
pub zero_test : (d : ℕ) → d ≡ 0 → (d == 0) ≡ true
zero_test d e = eq-eqb d 0 e

pub some_test : (d : ℕ) → 0 < d → (d == 0) ≡ false
some_test d lt = ne_eqb d 0 (λ e. absurd (omega arith))

only_return : (at : At) (v w : Value) (b : Bool) (r : Reply) (n : State) → w ≡ v → (at.activity.depth == 0) ≡ b →
    IsLeft at (left_alone (here_place at.state at.thread at.activity) (cond b (fate.Ends v) (fate.Fails fault.Open))) r n →
    IsLeft at (left_alone (here_place at.state at.thread at.activity) (return_fate at.activity.depth w)) r n
only_return at v w b r n e k h =
    subst (λ x. IsLeft at (left_alone (here_place at.state at.thread at.activity) (return_fate at.activity.depth x)) r n) (sym e)
    (subst (λ x. IsLeft at (left_alone (here_place at.state at.thread at.activity) (cond x (fate.Ends v) (fate.Fails fault.Open))) r n) (sym k) h)

-- the last frame returns
pub only_last : (at : At) (v w : Value) (b : Bool) (r : Reply) (n : State) → at.activity.below ≡ [] → w ≡ v → (at.activity.depth == 0) ≡ b →
    IsLeft at (left_alone (here_place at.state at.thread at.activity) (cond b (fate.Ends v) (fate.Fails fault.Open))) r n →
    IsLeft at (return_left (here_place at.state at.thread at.activity) w at.activity.below) r n
only_last at v w b r n last e k h = subst (λ fs. IsLeft at (return_left (here_place at.state at.thread at.activity) w fs) r n) (sym last) (only_return at v w b r n e k h)

-- a frame with one below returns
pub only_returned : (at : At) (from : ℕ) (n : State) (h : ReturnsTo at from n) → IsLeft at (return_left (here_place at.state at.thread at.activity) (register_of at.activity.top from) at.activity.below) reply.Ran n
only_returned at from n h =
    let same : with_result at.activity.top.result (register_of at.activity.top from) h.caller ≡ with_register h.to h.value h.caller =
    (λ i. with_result (h.awaits i) (reads_is at from h.value h.reads_value i) h.caller) in
    let is = h.returns
    ∙ sym (ap (λ (f : Frame). after at.state at.thread (Running (returned at.activity f h.others)) at.state.objects at.state.holding) same) in
    subst (λ fs. IsLeft at (return_left (here_place at.state at.thread at.activity) (register_of at.activity.top from) fs) reply.Ran n) (sym h.waiting) (refl, is)

-- what a `call` leaves, by the test of the frames
abbrev called_by : At → ℕ → ℕ → ℕ → Bool → Left
called_by at to first n b =
    record {
      fate = cond b (fate.Fails fault.Stack) fate.Continues;
      activity = cond b at.activity (called at.image at.activity to first n);
      objects = at.state.objects;
      holding = at.state.holding;
    }

-- a `call`, by that test
pub only_call : (at : At) (to first n : ℕ) (b : Bool) (r : Reply) (new : State) → (frame_count at.activity == 256) ≡ b → IsLeft at (called_by at to first n b) r new →
    IsLeft at (call_left at.image (here_place at.state at.thread at.activity) to first n) r new
only_call at to first n b r new e h = subst (λ x. IsLeft at (called_by at to first n x) r new) (sym e) h

-- what a `rel` leaves, by the tests of the depth
abbrev released_by : At → Bool → Bool → Left
released_by at z m =
    record {
      fate = cond z (fate.Fails fault.NoSection) fate.Continues;
      activity = cond z at.activity (cond m (left_last at.activity) (going_on at.activity (at.activity.depth - 1) (advanced at.activity.top)));
      objects = at.state.objects;
      holding = cond m (release at.state.holding at.thread) at.state.holding;
    }

-- a `rel`, by those tests
pub only_release : (at : At) (z m : Bool) (r : Reply) (n : State) → (at.activity.depth == 0) ≡ z → (at.activity.depth == 1) ≡ m → IsLeft at (released_by at z m) r n →
    IsLeft at (release_left (here_place at.state at.thread at.activity)) r n
only_release at z m r n e k h =
    subst (λ x. IsLeft at (released_by at x (at.activity.depth == 1)) r n) (sym e) (subst (λ x. IsLeft at (released_by at z x) r n) (sym k) h)

-- what an `acq` leaves, by the tests of the depth and of the request
abbrev acquired_by : At → Request → Bool → Bool → Bool → Left
acquired_by at request z m free =
    let f = cond z (cond free fate.Continues fate.Waits) (cond m (fate.Fails fault.Deep) fate.Continues) in
    record {
      fate = f;
      activity = activity_moved f (at.activity.depth + 1) at.activity;
      objects = at.state.objects;
      holding = cond z (cond free (grant at.state.holding at.thread request) at.state.holding) at.state.holding;
    }

-- an `acq`, by those tests
pub only_acquire : (at : At) (request : Request) (z m free test : Bool) (r : Reply) (n : State) → (at.activity.depth == 0) ≡ z → (at.activity.depth == 255) ≡ m → test ≡ free →
    IsLeft at (acquired_by at request z m free) r n → IsLeft at (acquire_left (here_place at.state at.thread at.activity) test request) r n
only_acquire at request z m free test r n e k g h =
    subst (λ x. IsLeft at (acquired_by at request x (at.activity.depth == 255) test) r n) (sym e)
    (subst (λ x. IsLeft at (acquired_by at request z x test) r n) (sym k) (subst (λ x. IsLeft at (acquired_by at request z m x) r n) (sym g) h))

-- going on in as many sections
pub goes_same : (at : At) (d e : ℕ) (objects : List Object) (holding : Holding) (n : State) → d ≡ e → ContinuesAt at d objects holding n → ContinuesAt at e objects holding n
goes_same at d e objects holding n is h = subst (λ k. ContinuesAt at k objects holding n) is h

-- the request that the line names is the computed one
pub request_same : (at : At) (list : ℕ) (request : Request) → Asks at list request → request_of at.state.objects at.activity.top.regs (locks_of at.image list) ≡ request
request_same at list request asks = ap (λ o. request_of at.state.objects at.activity.top.regs (unwrap_or o [])) asks.listed ∙ sym asks.is
