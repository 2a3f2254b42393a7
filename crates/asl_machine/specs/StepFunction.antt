-- Machinery: the step, computed, namely the reply and the state of the one line of the table that applies (specs/Step.antt;
-- docs/INSTRUCTIONS.md, "A step"). It answers something also where no line applies; nobody asks there.
use Rattle.std.specs.Prelude.{ℕ, ◌+◌, ◌-◌, ℤ, pos, int_lt, Bool, true, false, ◌&&◌, ◌==◌, List, [], ◌∷◌, ◌++◌, Option, None, Some, Result, Ok, Err, slice_get, unwrap_or, length, if◌then◌else◌}
use Rattle.std.specs.Int.{w32, int_wrapping_add, int_wrapping_sub}
use Rattle.std.specs.Ordering.{int_eq}
use Rattle.asl_code.specs.declared.image.Image.{Image}
use Rattle.asl_code.specs.declared.instr.Instr.{Instr}
use Rattle.asl_code.specs.declared.instr.Instr.TheVariants as instr
use Rattle.asl_code.specs.declared.value.Value.{Value}
use Rattle.asl_code.specs.declared.value.Value.TheVariants.{Int, Null, Addr}
use Rattle.asl_code.specs.declared.value.Cell.{Cell}
use Rattle.asl_code.specs.declared.value.Effect.{Effect}
use Rattle.asl_code.specs.declared.value.Effect.TheVariants.{Read, Write}
use Rattle.asl_lock_forest.specs.Holding.{Holding, Request, can_grant, grant, release}
use Rattle.asl_lock_forest.specs.Held.{Held}
use Rattle.asl_machine.specs.declared.fate.Fate.{Fate}
use Rattle.asl_machine.specs.declared.fate.Fate.TheVariants as fate
use Rattle.asl_machine.specs.declared.fault.Fault.{Fault}
use Rattle.asl_machine.specs.declared.fault.Fault.TheVariants as fault
use Rattle.asl_machine.specs.declared.reply.Reply.{Reply}
use Rattle.asl_machine.specs.declared.reply.Reply.TheVariants as reply
use Rattle.asl_machine.specs.State.{Object, Frame, Activity, Thread, Running, Done, Failed, State, cell_at, written, new_object}
use Rattle.asl_machine.specs.Calls.{frame_count, with_result}
use Rattle.asl_machine.specs.Cover.{Cover, cover}
use Rattle.asl_machine.specs.Access.{is_protected}
use Rattle.asl_expression.specs.Expression.{cell_of, moved}
use Rattle.asl_machine.specs.Request.{heap_of, request_of, locks_of}
use Rattle.asl_machine.specs.Step.{placed_at, advanced, advanced_with, going_on, called, returned, having_made, left_last, after, is_zero}

-- what an instruction leaves: what becomes of its thread, and the parts of the state that it may have changed
pub record Left : Type 0 where
  pub fate : Fate
  pub activity : Activity
  pub objects : List Object
  pub holding : Holding

-- the parts of a state that an instruction of a thread may read or change
pub record Place : Type 0 where
  pub thread : ℕ
  pub activity : Activity
  pub objects : List Object
  pub holding : Holding

-- the place of a thread that is at this, over these objects and under this forest
abbrev pub place : ℕ → Activity → List Object → Held → Place
place t activity objects forest = record { thread = t; activity = activity; objects = objects; holding = forest.holding }

-- what is left where this becomes of a thread that is at this, over these objects and under this forest
abbrev pub left_with : Fate → Activity → List Object → Held → Left
left_with f activity objects forest = record { fate = f; activity = activity; objects = objects; holding = forest.holding }

-- nothing has changed, and this becomes of the thread
abbrev pub left_alone : Place → Fate → Left
left_alone p f = record { fate = f; activity = p.activity; objects = p.objects; holding = p.holding }

-- the value of a register of the top frame
abbrev pub register_of : Frame → ℕ → Value
register_of f register = unwrap_or (slice_get f.regs register) Null

-- what becomes of a thread that continues with this, or fails
abbrev pub fate_of : {T : Type 0} → Result T Fault → Fate
fate_of (Ok x) = fate.Continues
fate_of (Err f) = fate.Fails f

-- where the thread is then: at its next instruction, with the value in the register
abbrev pub activity_set : Activity → ℕ → Result Value Fault → Activity
activity_set a to (Ok value) = going_on a a.depth (advanced_with to value a.top)
activity_set a to (Err f) = a

-- the register gets the value, or the thread fails
abbrev pub set_left : Place → ℕ → Result Value Fault → Left
set_left p to value = record { fate = fate_of value; activity = activity_set p.activity to value; objects = p.objects; holding = p.holding }

-- the result of an operation on two integers
abbrev pub computed : (ℤ → ℤ → Value) → Value → Value → Result Value Fault
computed operation (Int x) (Int y) = Ok (operation x y)
computed operation x y = Err fault.BadType

-- the integer for the answer to a test: 1 where it holds
abbrev pub truth : Bool → Value
truth true = Int (pos 1)
truth false = Int (pos 0)

-- the sum of two integers
abbrev pub added : ℤ → ℤ → Value
added x y = Int (int_wrapping_add w32 x y)

-- the difference of two integers
abbrev pub subtracted : ℤ → ℤ → Value
subtracted x y = Int (int_wrapping_sub w32 x y)

-- whether an integer is below another
abbrev pub compared : ℤ → ℤ → Value
compared x y = truth (int_lt x y)

-- whether two values are the same
abbrev pub same_value : Value → Value → Bool
same_value (Int x) (Int y) = int_eq x y
same_value Null Null = true
same_value (Addr o i) (Addr p j) = o == p && i == j
same_value x y = false

-- the address of the cell, if there is one
abbrev pub address_or_bounds : Option Cell → Result Value Fault
address_or_bounds None = Err fault.Bounds
address_or_bounds (Some cell) = Ok (Addr cell.object cell.offset)

-- the address so many cells on
abbrev pub address_moved : List Object → ℕ → Value → Result Value Fault
address_moved objects places (Int number) = Err fault.BadType
address_moved objects places Null = Err fault.Null
address_moved objects places (Addr object offset) = address_or_bounds (moved (heap_of objects) places (cell_of object offset))

-- what becomes of a thread that makes an object: there are at most 65,536
abbrev pub make_fate : List Object → Fate
make_fate objects = if length objects == 65536 then fate.Fails fault.Full else fate.Continues

-- where a thread is that makes an object, whose address goes to the register, or has no room for one
abbrev pub activity_made : ℕ → List Object → Activity → ℕ → Activity
activity_made version objects a to = if length objects == 65536 then a else having_made version a to (length objects)

-- the objects after an object of the class with so many cells is made, where there is room for one
abbrev pub made_objects : List Object → ℕ → ℕ → List Object
made_objects objects cells class = if length objects == 65536 then objects else objects ++ new_object class cells ∷ []

-- the register gets the address of a new object, or the thread fails
abbrev pub make_left : ℕ → Place → ℕ → ℕ → ℕ → Left
make_left version p to cells class =
    record {
      fate = make_fate p.objects;
      activity = activity_made version p.objects p.activity to;
      objects = made_objects p.objects cells class;
      holding = p.holding;
    }

-- the cell, where the access is allowed
abbrev pub allowed_cell : Bool → Effect → Cell → Result Cell Fault
allowed_cell allowed effect cell = if allowed then Ok cell else Err (fault.Unprotected cell effect)

-- the cell that the value is the address of, where thread t, in so many sections, may access it so
abbrev pub accessed : Cover → List Object → ℕ → ℕ → Effect → Value → Result Cell Fault
accessed c objects t depth effect (Int number) = Err fault.BadType
accessed c objects t depth effect Null = Err fault.Null
accessed c objects t depth effect (Addr object offset) =
    allowed_cell (is_protected c objects t depth effect (cell_of object offset)) effect (cell_of object offset)

-- the cell that the register holds the address of, where the thread may access it so
abbrev pub accessed_by : Place → Effect → ℕ → Result Cell Fault
accessed_by p effect register = accessed (cover p.holding p.activity.fresh) p.objects p.thread p.activity.depth effect (register_of p.activity.top register)

-- the value of the cell
abbrev pub loaded : List Object → Result Cell Fault → Result Value Fault
loaded objects (Ok cell) = Ok (unwrap_or (cell_at objects cell) Null)
loaded objects (Err f) = Err f

-- where the thread is after a store to the cell
abbrev pub activity_stored : Activity → Result Cell Fault → Activity
activity_stored a (Ok cell) = going_on a a.depth (advanced a.top)
activity_stored a (Err f) = a

-- the objects after a store to the cell
abbrev pub objects_stored : List Object → Value → Result Cell Fault → List Object
objects_stored objects value (Ok cell) = written objects cell value
objects_stored objects value (Err f) = objects

-- the cell gets the value, or the thread fails
abbrev pub store_left : Place → Value → Result Cell Fault → Left
store_left p value target =
    record { fate = fate_of target; activity = activity_stored p.activity target; objects = objects_stored p.objects value target; holding = p.holding }

-- the thread continues at this place of the code
abbrev pub jump_left : Place → ℕ → Left
jump_left p target =
    record { fate = fate.Continues; activity = going_on p.activity p.activity.depth (placed_at target p.activity.top); objects = p.objects; holding = p.holding }

-- the thread continues, and shows the value
abbrev pub show_left : Place → Value → Left
show_left p value =
    record { fate = fate.Shows value; activity = going_on p.activity p.activity.depth (advanced p.activity.top); objects = p.objects; holding = p.holding }

-- what becomes of a thread that calls: there are at most 256 frames
abbrev pub call_fate : Activity → Fate
call_fate a = if frame_count a == 256 then fate.Fails fault.Stack else fate.Continues

-- where a thread is that calls the function, or has no room for a frame more
abbrev pub activity_called : Image → Activity → ℕ → ℕ → ℕ → Activity
activity_called image a to first function = if frame_count a == 256 then a else called image a to first function

-- the thread calls the function, or fails
abbrev pub call_left : Image → Place → ℕ → ℕ → ℕ → Left
call_left image p to first function =
    record {
      fate = call_fate p.activity;
      activity = activity_called image p.activity to first function;
      objects = p.objects;
      holding = p.holding;
    }

-- what becomes of a thread whose last frame returns the value, in so many sections
abbrev pub return_fate : ℕ → Value → Fate
return_fate depth value = if depth == 0 then fate.Ends value else fate.Fails fault.Open

-- what becomes of a thread whose top frame returns the value to the frames below
abbrev pub fate_returned : Activity → Value → List Frame → Fate
fate_returned a value [] = return_fate a.depth value
fate_returned a value (caller ∷ others) = fate.Continues

-- where a thread is whose top frame returns the value to the frames below
abbrev pub activity_returned : Activity → Value → List Frame → Activity
activity_returned a value [] = a
activity_returned a value (caller ∷ others) = returned a (with_result a.top.result value caller) others

-- the top frame returns the value
abbrev pub return_left : Place → Value → List Frame → Left
return_left p value below =
    record {
      fate = fate_returned p.activity value below;
      activity = activity_returned p.activity value below;
      objects = p.objects;
      holding = p.holding;
    }

-- what becomes of a thread at an `acq`, in so many sections, where its locks are free or not
abbrev pub acquire_fate : ℕ → Bool → Fate
acquire_fate depth free =
    if depth == 0 then (if free then fate.Continues else fate.Waits) else if depth == 255 then fate.Fails fault.Deep else fate.Continues

-- where a thread is that continues in another number of sections, or does not continue
abbrev pub activity_moved : Fate → ℕ → Activity → Activity
activity_moved fate.Continues depth a = going_on a depth (advanced a.top)
activity_moved (fate.Shows value) depth a = a
activity_moved (fate.Ends value) depth a = a
activity_moved (fate.Fails f) depth a = a
activity_moved fate.Waits depth a = a

-- the holding after an `acq`, in so many sections, where its locks are free or not
abbrev pub holding_acquired : ℕ → Bool → ℕ → Request → Holding → Holding
holding_acquired depth free t request holding = if depth == 0 then (if free then grant holding t request else holding) else holding

-- the thread enters a section, by the outermost with this request
abbrev pub acquire_left : Place → Bool → Request → Left
acquire_left p free request =
    let f = acquire_fate p.activity.depth free in
    record {
      fate = f;
      activity = activity_moved f (p.activity.depth + 1) p.activity;
      objects = p.objects;
      holding = holding_acquired p.activity.depth free p.thread request p.holding;
    }

-- what becomes of a thread at a `rel`, in so many sections
abbrev pub release_fate : ℕ → Fate
release_fate depth = if depth == 0 then fate.Fails fault.NoSection else fate.Continues

-- where a thread is that leaves a section, if it is in one: the last one, or an inner one
abbrev pub activity_left : Activity → Activity
activity_left a = if a.depth == 0 then a else if a.depth == 1 then left_last a else going_on a (a.depth - 1) (advanced a.top)

-- the holding after a `rel`, in so many sections
abbrev pub holding_released : ℕ → ℕ → Holding → Holding
holding_released depth t holding = if depth == 1 then release holding t else holding

-- the thread leaves a section
abbrev pub release_left : Place → Left
release_left p =
    record {
      fate = release_fate p.activity.depth;
      activity = activity_left p.activity;
      objects = p.objects;
      holding = holding_released p.activity.depth p.thread p.holding;
    }

-- what a list asks for at this place
abbrev pub request_at : Image → Place → ℕ → Request
request_at image p list = request_of p.objects p.activity.top.regs (locks_of image list)

-- what the instruction leaves
abbrev pub left_by : Image → Place → Instr → Left
left_by image p (instr.SetInt to number) = set_left p to (Ok (Int number))
left_by image p (instr.SetNull to) = set_left p to (Ok Null)
left_by image p (instr.Move to from) = set_left p to (Ok (register_of p.activity.top from))
left_by image p (instr.Add to left right) = set_left p to (computed added (register_of p.activity.top left) (register_of p.activity.top right))
left_by image p (instr.Subtract to left right) = set_left p to (computed subtracted (register_of p.activity.top left) (register_of p.activity.top right))
left_by image p (instr.LessThan to left right) = set_left p to (computed compared (register_of p.activity.top left) (register_of p.activity.top right))
left_by image p (instr.Equals to left right) =
    set_left p to (Ok (truth (same_value (register_of p.activity.top left) (register_of p.activity.top right))))
left_by image p (instr.GlobalAddress to global) = set_left p to (Ok (Addr global 0))
left_by image p (instr.FieldAddress to from places) = set_left p to (address_moved p.objects places (register_of p.activity.top from))
left_by image p (instr.Load to address) = set_left p to (loaded p.objects (accessed_by p Read address))
left_by image p (instr.Store address from) = store_left p (register_of p.activity.top from) (accessed_by p Write address)
left_by image p (instr.New to cells class) = make_left image.version p to cells class
left_by image p (instr.Jump target) = jump_left p target
left_by image p (instr.JumpIfZero test target) =
    jump_left p (if is_zero (register_of p.activity.top test) then target else p.activity.top.pc + 1)
left_by image p (instr.Call to first function) = call_left image p to first function
left_by image p (instr.Return from) = return_left p (register_of p.activity.top from) p.activity.below
left_by image p (instr.Output from) = show_left p (register_of p.activity.top from)
left_by image p (instr.Acquire list) =
    acquire_left p (can_grant p.holding p.thread (request_at image p list)) (request_at image p list)
left_by image p instr.Release = release_left p

-- what the instruction leaves, if one is there
abbrev pub left_at : Image → Place → Option Instr → Left
left_at image p None = left_alone p fate.Waits
left_at image p (Some i) = left_by image p i

-- the answer to a step, by what becomes of the thread
abbrev pub reply_of : Fate → Reply
reply_of fate.Continues = reply.Ran
reply_of (fate.Shows value) = reply.Out value
reply_of (fate.Ends value) = reply.Ran
reply_of (fate.Fails f) = reply.Fault f
reply_of fate.Waits = reply.Blocked

-- the thread after a step
abbrev pub thread_after : Fate → Activity → Thread
thread_after fate.Continues activity = Running activity
thread_after (fate.Shows value) activity = Running activity
thread_after (fate.Ends value) activity = Done value
thread_after (fate.Fails f) activity = Failed f
thread_after fate.Waits activity = Running activity

-- the holding after a step: one that fails gives all back
abbrev pub holding_after : Fate → ℕ → Holding → Holding
holding_after fate.Continues t holding = holding
holding_after (fate.Shows value) t holding = holding
holding_after (fate.Ends value) t holding = holding
holding_after (fate.Fails f) t holding = release holding t
holding_after fate.Waits t holding = holding

-- what a thread's step answers, and the parts of the state that it may change
pub record Turn : Type 0 where
  pub reply : Reply
  pub thread : Thread
  pub objects : List Object
  pub holding : Holding

-- the step of a running thread, by what its instruction leaves
abbrev pub turn_by : ℕ → Left → Turn
turn_by t l =
    record { reply = reply_of l.fate; thread = thread_after l.fate l.activity; objects = l.objects; holding = holding_after l.fate t l.holding }

-- the step of thread t
abbrev pub turn_of : Image → ℕ → Thread → List Object → Holding → Turn
turn_of image t (Running activity) objects holding =
    turn_by t (left_at image (record { thread = t; activity = activity; objects = objects; holding = holding }) (slice_get image.code activity.top.pc))
turn_of image t (Done value) objects holding = record { reply = reply.Ended; thread = Done value; objects = objects; holding = holding }
turn_of image t (Failed f) objects holding = record { reply = reply.Ended; thread = Failed f; objects = objects; holding = holding }

-- what a step answers, and the state that it leaves
pub record Stepped : Type 0 where
  pub reply : Reply
  pub state : State

-- the step of what stands at the thread's number
abbrev pub step_at : Image → State → ℕ → Option Thread → Stepped
step_at image s t None = record { reply = reply.Ended; state = s }
step_at image s t (Some thread) =
    let turn = turn_of image t thread s.objects s.holding in
    record { reply = turn.reply; state = after s t turn.thread turn.objects turn.holding }

-- the step of thread t
abbrev pub step_of : Image → State → ℕ → Stepped
step_of image s t = step_at image s t (slice_get s.threads t)
