-- What each group of instructions leaves may follow: those that set a register, `store`, `new`, jumps, calls, returns, `acq` and
-- `rel`.
use Rattle.std.proofs.Common.{◌≡◌, ◌≢◌, ℕ, ℤ, ◌+◌, ◌-◌, ◌<◌, ◌≤◌, ◌==◌, ◌++◌, Bool, true, false, cond, List, [], ◌∷◌, Option, Some, None, Result, Ok, Err, IfOk, length, slice_get, refl, ◌∙◌, inl, inr, arith, eqb-true, eq-eqb, All}
use Rattle.std.specs.Prelude.{unwrap_or}
use Rattle.asl_code.specs.declared.image.Image.{Image}
use Rattle.asl_code.specs.declared.image.Function.{Function}
use Rattle.asl_code.specs.declared.instr.Instr.TheVariants as instr
use Rattle.asl_code.specs.declared.lock.Lock.{Lock}
use Rattle.asl_code.specs.declared.value.Value.{Value}
use Rattle.asl_code.specs.declared.value.Value.TheVariants.{Int, Null, Addr}
use Rattle.asl_code.specs.declared.value.Cell.{Cell}
use Rattle.asl_code.specs.Fits.{HasLock, LiesIn}
use Rattle.asl_lock_forest.specs.Holding.{Request, can_grant, grant, release}
use Rattle.asl_lock_forest.proofs.Grantable.{can_grant-tells}
use Rattle.asl_lock_forest.proofs.Lawful.{lawful_grant, within_grant}
use Rattle.asl_machine.specs.declared.fate.Fate.TheVariants as fate
use Rattle.asl_machine.specs.declared.fault.Fault.{Fault}
use Rattle.asl_machine.specs.declared.fault.Fault.TheVariants as fault
use Rattle.asl_machine.specs.State.{Object, Frame, Activity, State, cell_at, written, new_object}
use Rattle.asl_machine.specs.Access.{Points}
use Rattle.asl_machine.specs.Request.{LockOfClass, request_of}
use Rattle.asl_machine.specs.Step.{advanced, going_on, called, made_fresh, having_made, left_last}
use Rattle.asl_machine.specs.StepFunction.{Left, Place, set_left, computed, truth, jump_left, show_left, make_left, loaded, store_left, left_alone, call_left, return_left, activity_moved, acquire_left, release_left, turn_by}
use Rattle.asl_machine.specs.WellFormed.{AreSuspended, AreWellFormed}
use Rattle.asl_machine.specs.Calls.{frame_count}
use Rattle.asl_machine.proofs.Heaps.{class_of-written}
use Rattle.asl_machine.proofs.WellFormedHeaps.{read_before, sound_written, points_kept, sound_made, points_before, made_points}
use Rattle.asl_machine.proofs.Nodes.{granted_before, request_there}
use Rattle.asl_machine.proofs.RootedRequests.{request_is_rooted}
use Rattle.asl_machine.proofs.RequestEntries.{request_asks_modes, request_is_of_classes}
use Rattle.asl_machine.proofs.Following.{MayFollow, grown, refreshed, Here, outside_here, follows_fail, follows_end, follows_changes, follows_goes, Granted, follows_grant, follows_release}
use Rattle.asl_machine.proofs.Placing.{placed_jumped, placed_advanced, placed_with, placed_called, placed_returned}

-- the thread's place in the state
abbrev pub here_place : State → ℕ → Activity → Place
here_place s t a = record { thread = t; activity = a; objects = s.objects; holding = s.holding }

-- what an instruction leaves may follow
abbrev pub Follows : Image → State → ℕ → Left → Type 0
Follows image s t l = MayFollow image s t (turn_by t l).thread (turn_by t l).objects (turn_by t l).holding

-- a register is set, or the value's fault stops the thread
pub follows_set : (image : Image) (s : State) (t : ℕ) (a : Activity) (h : Here image s t a) → LiesIn image a.top.function (a.top.pc + 1) h.placed.function → (to : ℕ) (value : Result Value Fault) →
    IfOk value (Points s.objects) → Follows image s t (set_left (here_place s t a) to value)
follows_set image s t a h lies to (Ok v) p =
    follows_goes image s t a _ h (placed_with image s.objects a to v h.placed lies p) (λ e. e)
follows_set image s t a h lies to (Err f) p = follows_fail image s t a f h

-- what an operation, a test or a load gives points to a cell that is there, or nowhere
pub computed_points : (objects : List Object) (operation : ℤ → ℤ → Value) → ((x y : ℤ) → Points objects (operation x y)) → (x y : Value) → IfOk (computed operation x y) (Points objects)
computed_points objects operation h (Int x) (Int y) = h x y
computed_points objects operation h (Int x) Null = tt
computed_points objects operation h (Int x) (Addr o i) = tt
computed_points objects operation h Null y = tt
computed_points objects operation h (Addr o i) y = tt

pub truth_points : (objects : List Object) (b : Bool) → Points objects (truth b)
truth_points objects true = tt
truth_points objects false = tt

pub found_points : (objects : List Object) (o : Option Value) → ((v : Value) → o ≡ Some v → Points objects v) → Points objects (unwrap_or o Null)
found_points objects None h = tt
found_points objects (Some v) h = h v refl

pub loaded_points : (image : Image) (objects : List Object) (target : Result Cell Fault) → AreWellFormed image objects → IfOk (loaded objects target) (Points objects)
loaded_points image objects (Ok cell) sound = found_points objects (cell_at objects cell) (λ v e. sound.points cell v e)
loaded_points image objects (Err f) sound = tt

-- a value is stored in a cell, or the access's fault stops the thread
pub follows_store : (image : Image) (s : State) (t : ℕ) (a : Activity) (h : Here image s t a) → LiesIn image a.top.function (a.top.pc + 1) h.placed.function → (value : Value) (target : Result Cell Fault) →
    Points s.objects value → Follows image s t (store_left (here_place s t a) value target)
follows_store image s t a h lies value (Ok cell) p =
    let more = written s.objects cell value in
    let grows : (v : Value) → Points s.objects v → Points more v = points_kept s.objects cell value in
    follows_changes image s t a _ more h (sound_written image s.objects cell value h.sound.formed.objects p) grows (λ n class e. class_of-written s.objects cell value n ∙ e)
    (grown image s.objects more _ grows (placed_advanced image s.objects a a.depth h.placed lies h.placed.depth)) (λ e. e)
follows_store image s t a h lies value (Err f) p = follows_fail image s t a f h

-- a new object is made, or there are too many
pub follows_make : (image : Image) (s : State) (t : ℕ) (a : Activity) (h : Here image s t a) → LiesIn image a.top.function (a.top.pc + 1) h.placed.function → (to cells class : ℕ) → class < image.classes → 0 < cells →
    Follows image s t (make_left image.version (here_place s t a) to cells class)
unfolding grown
follows_make image s t a h lies to cells class lt some =
    let more = s.objects ++ new_object class cells ∷ [] in
    let few : length s.objects ≤ 65536 = h.sound.formed.objects.few in
    elim (length s.objects == 65536) as (λ b. (length s.objects == 65536) ≡ b →
    Follows image s t (record {
      fate = cond b (fate.Fails fault.Full) fate.Continues;
      activity = cond b a (having_made image.version a to (length s.objects));
      objects = cond b s.objects more;
      holding = s.holding;
    })) [
      | true ↦ λ e. follows_fail image s t a fault.Full h
      | false ↦ λ e.
          let not_most : length s.objects ≢ 65536 = λ z. let f = eq-eqb (length s.objects) 65536 z in cc in
          let grows : (v : Value) → Points s.objects v → Points more v = points_before s.objects (new_object class cells ∷ []) in
          follows_changes image s t a _ more h (sound_made image s.objects class cells h.sound.formed.objects lt some (omega arith)) grows
          (λ n k f. read_before (λ (o : Object). o.class) s.objects (new_object class cells ∷ []) n k f)
          (refreshed image more _ (made_fresh image.version a.depth (length s.objects) a.fresh)
          (placed_with image more a to (Addr (length s.objects) 0) (grown image s.objects more a grows h.placed) lies (made_points s.objects class cells some))) (λ e. e)
    ] refl

-- the thread goes on elsewhere in its body
pub follows_jump : (image : Image) (s : State) (t : ℕ) (a : Activity) (h : Here image s t a) (target : ℕ) → LiesIn image a.top.function target h.placed.function →
    Follows image s t (jump_left (here_place s t a) target)
follows_jump image s t a h target lies =
    follows_goes image s t a _ h (placed_jumped image s.objects a a.depth target h.placed lies h.placed.depth) (λ e. e)

-- a value is told
pub follows_show : (image : Image) (s : State) (t : ℕ) (a : Activity) (h : Here image s t a) → LiesIn image a.top.function (a.top.pc + 1) h.placed.function → (value : Value) →
    Follows image s t (show_left (here_place s t a) value)
follows_show image s t a h lies value =
    follows_goes image s t a _ h (placed_advanced image s.objects a a.depth h.placed lies h.placed.depth) (λ e. e)

-- a place that is one of two lies in the body where both do
pub either_lies : (image : Image) (n x y : ℕ) (f : Function) (b : Bool) → LiesIn image n x f → LiesIn image n y f → LiesIn image n (cond b x y) f
either_lies image n x y f true p q = p
either_lies image n x y f false p q = q

-- a function is called, or there are too many frames
pub follows_call : (image : Image) (s : State) (t : ℕ) (a : Activity) (h : Here image s t a) (to first n : ℕ) (callee : Function) → slice_get image.code a.top.pc ≡ Some (instr.Call to first n) →
    slice_get image.functions n ≡ Some callee → first + callee.params ≤ h.placed.function.regs → LiesIn image a.top.function (a.top.pc + 1) h.placed.function → Follows image s t (call_left image (here_place s t a) to first n)
follows_call image s t a h to first n callee at there enough next =
    let few : length a.below < 256 = h.placed.few in
    elim (frame_count a == 256) as (λ b. (frame_count a == 256) ≡ b →
    Follows image s t (record { fate = cond b (fate.Fails fault.Stack) fate.Continues; activity = cond b a (called image a to first n); objects = s.objects; holding = s.holding })) [
      | true ↦ λ e. follows_fail image s t a fault.Stack h
      | false ↦ λ e.
          let not_most : frame_count a ≢ 256 = λ z. let f = eq-eqb (frame_count a) 256 z in cc in
          follows_goes image s t a _ h (placed_called image s.objects a to first n callee h.placed h.sound.fits at there enough next (omega arith)) (λ e. e)
    ] refl

-- a value is returned to the frame below, or the thread ends
pub follows_return : (image : Image) (s : State) (t : ℕ) (a : Activity) (h : Here image s t a) (value : Value) → Points s.objects value → Follows image s t (return_left (here_place s t a) value a.below)
follows_return image s t a h value points = by image s t a h value points a.below h.placed.below h.placed.few
  where
    by : (image : Image) (s : State) (t : ℕ) (a : Activity) (h : Here image s t a) (value : Value) → Points s.objects value → (frames : List Frame) → AreSuspended image s.objects a.top.function a.top.result frames →
        length frames < 256 → Follows image s t (return_left (here_place s t a) value frames)
    by image s t a h value points [] below few =
        elim (a.depth == 0) as (λ b. (a.depth == 0) ≡ b → Follows image s t (left_alone (here_place s t a) (cond b (fate.Ends value) (fate.Fails fault.Open)))) [
          | true ↦ λ e. follows_end image s t a value h (eqb-true _ _ e) points
          | false ↦ λ e. follows_fail image s t a fault.Open h
        ] refl
    by image s t a h value points (f ∷ fs) below few =
        follows_goes image s t a _ h
        (placed_returned image s.objects a a.top.function a.top.result f fs value h.placed.depth few points below) (λ e. e)

-- a section is left, the outermost with all that it holds
pub follows_leave : (image : Image) (s : State) (t : ℕ) (a : Activity) (h : Here image s t a) → LiesIn image a.top.function (a.top.pc + 1) h.placed.function → Follows image s t (release_left (here_place s t a))
follows_leave image s t a h lies =
    by image s t a h lies (a.depth == 0) (a.depth == 1) refl refl
  where
    by : (image : Image) (s : State) (t : ℕ) (a : Activity) (h : Here image s t a) → LiesIn image a.top.function (a.top.pc + 1) h.placed.function →
        (z m : Bool) → ((a.depth == 0) ≡ z) → ((a.depth == 1) ≡ m) →
        Follows image s t (record {
          fate = cond z (fate.Fails fault.NoSection) fate.Continues;
          activity = cond z a (cond m (left_last a) (going_on a (a.depth - 1) (advanced a.top)));
          objects = s.objects;
          holding = cond m (release s.holding t) s.holding;
        })
    by image s t a h lies true true e k =
        let none : a.depth ≡ 0 = eqb-true _ _ e in let one : a.depth ≡ 1 = eqb-true _ _ k in absurd (omega arith)
    by image s t a h lies true false e k = follows_fail image s t a fault.NoSection h
    by image s t a h lies false true e k =
        follows_release image s t a _ h (refreshed image s.objects _ [] (placed_advanced image s.objects a 0 h.placed lies (omega arith)))
    by image s t a h lies false false e k =
        let small : a.depth ≤ 255 = h.placed.depth in
        let not_zero : a.depth ≢ 0 = λ z. let f = eq-eqb a.depth 0 z in cc in
        let not_one : a.depth ≢ 1 = λ z. let f = eq-eqb a.depth 1 z in cc in
        follows_goes image s t a _ h (placed_advanced image s.objects a (a.depth - 1) h.placed lies (omega arith)) (λ z. absurd (omega arith))

-- a section is entered, the outermost by its request
pub follows_enter : (image : Image) (s : State) (t : ℕ) (a : Activity) (h : Here image s t a) → LiesIn image a.top.function (a.top.pc + 1) h.placed.function → (locks : List Lock) → All (LockOfClass image.classes) locks → All (HasLock image) locks →
    let request = request_of s.objects a.top.regs locks in
    Follows image s t (acquire_left (here_place s t a) (can_grant s.holding t request) request)
follows_enter image s t a h lies locks fit has =
    let request = request_of s.objects a.top.regs locks in
    let laws : a.depth ≡ 0 → can_grant s.holding t request ≡ true → Granted image s t request =
    λ none free. record {
      lawful = lawful_grant s.holding t request h.sound.lawful (outside_here image s t a h none) (request_asks_modes s.objects a.top.regs locks) (request_is_rooted s.objects a.top.regs locks)
          (can_grant-tells s.holding t request free);
      within = within_grant image.classes (length s.threads) s.holding t request h.sound.within h.there (request_is_of_classes image.classes s.objects a.top.regs locks fit h.sound.formed.objects.classes);
      nodes = λ u n ne. elim (granted_before s.holding t request (outside_here image s t a h none) u n ne) [
        | inl before ↦ inl before
        | inr new ↦ inr (request_there image s.objects a.top.regs locks h.sound.formed.objects h.placed.points has n new)
      ];
    } in
    by image s t a h lies request laws (a.depth == 0) (a.depth == 255) (can_grant s.holding t request) refl refl refl
  where
    by : (image : Image) (s : State) (t : ℕ) (a : Activity) (h : Here image s t a) → LiesIn image a.top.function (a.top.pc + 1) h.placed.function → (request : Request) →
        (a.depth ≡ 0 → can_grant s.holding t request ≡ true → Granted image s t request) →
        (z m free : Bool) → ((a.depth == 0) ≡ z) → ((a.depth == 255) ≡ m) → (can_grant s.holding t request ≡ free) →
        (let f = cond z (cond free fate.Continues fate.Waits) (cond m (fate.Fails fault.Deep) fate.Continues) in
        Follows image s t (record { fate = f; activity = activity_moved f (a.depth + 1) a; objects = s.objects; holding = cond z (cond free (grant s.holding t request) s.holding) s.holding }))
    by image s t a h lies request laws true m true e k g =
        let none : a.depth ≡ 0 = eqb-true _ _ e in
        follows_grant image s t a _ request h (placed_advanced image s.objects a (a.depth + 1) h.placed lies (omega arith)) (λ z. absurd (omega arith)) (laws none g)
    by image s t a h lies request laws true m false e k g = follows_goes image s t a a h h.placed (λ z. z)
    by image s t a h lies request laws false true free e k g = follows_fail image s t a fault.Deep h
    by image s t a h lies request laws false false free e k g =
        let small : a.depth ≤ 255 = h.placed.depth in
        let not_most : a.depth ≢ 255 = λ z. let f = eq-eqb a.depth 255 z in cc in
        follows_goes image s t a _ h (placed_advanced image s.objects a (a.depth + 1) h.placed lies (omega arith)) (λ z. absurd (omega arith))
