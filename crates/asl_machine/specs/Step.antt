-- One step of a thread, as the instruction table says it (docs/INSTRUCTIONS.md, "A step"): a line for each instruction
-- and each reply that it can give, named here by the instruction. A reply that an instruction never gives has no line.
use Rattle.std.specs.Prelude.{◌≡◌, ℕ, ℤ, pos, ◌+◌, ◌-◌, ◌<◌, ◌≤◌, ◌<ℤ◌, ◌⊎◌, ◌&&◌, nat_lt, if◌then◌else◌, Bool, false, true, List, [], ◌∷◌, ◌++◌, length, Option, None, Some, slice_get, slice_set}
use Rattle.std.specs.Int.{w32, int_wrapping_add, int_wrapping_sub}
use Rattle.std.specs.Ordering.{int_eq}
use Rattle.asl_code.specs.declared.image.Function.{Function}
use Rattle.asl_code.specs.declared.image.Image.{Image}
use Rattle.asl_code.specs.declared.instr.Instr.{Instr}
use Rattle.asl_code.specs.declared.instr.Instr.TheVariants as instr
use Rattle.asl_code.specs.declared.lock.Lock.{Lock}
use Rattle.asl_code.specs.declared.value.Value.{Value}
use Rattle.asl_code.specs.declared.value.Value.TheVariants.{Int, Null, Addr}
use Rattle.asl_code.specs.declared.value.Cell.{Cell}
use Rattle.asl_code.specs.declared.value.Effect.{Effect}
use Rattle.asl_code.specs.declared.value.Effect.TheVariants.{Read, Write}
use Rattle.asl_code.specs.Versions.{has_fresh}
use Rattle.asl_lock_forest.specs.Holding.{Holding, Request, CanGrant, grant, release}
use Rattle.asl_machine.specs.declared.fault.Fault.{Fault}
use Rattle.asl_machine.specs.declared.fault.Fault.TheVariants as fault
use Rattle.asl_machine.specs.declared.reply.Reply.{Reply}
use Rattle.asl_machine.specs.declared.reply.Reply.TheVariants as reply
use Rattle.asl_machine.specs.State.{Object, Frame, Activity, Thread, Running, Done, Failed, State, cell_at, size_of, written, new_object}
use Rattle.asl_machine.specs.Calls.{function_of, first_frame, values_from, frame_count, with_register}
use Rattle.asl_machine.specs.Cover.{cover}
use Rattle.asl_machine.specs.Access.{is_protected}
use Rattle.asl_machine.specs.Request.{request_of}

-- where a step begins: a running thread of a state of a program
pub record At : Type 0 where
  pub image : Image
  pub state : State
  pub thread : ℕ
  pub activity : Activity

-- the frame at this place of the code
abbrev pub placed_at : ℕ → Frame → Frame
placed_at pc f = record { function = f.function; pc = pc; regs = f.regs; result = f.result }

-- the frame at its next instruction
abbrev pub advanced : Frame → Frame
advanced f = placed_at (f.pc + 1) f

-- the frame at its next instruction, with the value in the register
abbrev pub advanced_with : ℕ → Value → Frame → Frame
advanced_with register value f = record { function = f.function; pc = f.pc + 1; regs = slice_set f.regs register value; result = f.result }

-- what the thread is at, in so many sections and with this top frame
abbrev pub going_on : Activity → ℕ → Frame → Activity
going_on a depth top = record { depth = depth; top = top; below = a.below; fresh = a.fresh }

-- what a thread is at that has called the function: its frame is at its next instruction, and a frame of the function
-- begins above, its parameters copied from the registers from the first one on; its value will go to the register
abbrev pub called : Image → Activity → ℕ → ℕ → ℕ → Activity
called image a to first function =
    record {
      depth = a.depth;
      top = first_frame image function (values_from a.top.regs first (function_of image function).params) (Some to);
      below = advanced a.top ∷ a.below;
      fresh = a.fresh;
    }

-- what a thread is at whose top frame has ended: this frame is the top one, and these are below
abbrev pub returned : Activity → Frame → List Frame → Activity
returned a top below = record { depth = a.depth; top = top; below = below; fresh = a.fresh }

-- what a thread is at, with these objects fresh for it
abbrev pub with_fresh : List ℕ → Activity → Activity
with_fresh fresh a = record { depth = a.depth; top = a.top; below = a.below; fresh = fresh }

-- the objects that are fresh for a thread that has made one, in so many sections: it is one of them, if it was made
-- inside a section, by an image whose version has fresh objects
abbrev pub made_fresh : ℕ → ℕ → ℕ → List ℕ → List ℕ
made_fresh version depth object fresh = if has_fresh version && nat_lt 0 depth then fresh ++ object ∷ [] else fresh

-- what a thread is at that has made the object of this number, by an image of this version: the register has the address
-- of its first cell
abbrev pub having_made : ℕ → Activity → ℕ → ℕ → Activity
having_made version a to object =
    with_fresh (made_fresh version a.depth object a.fresh) (going_on a a.depth (advanced_with to (Addr object 0) a.top))

-- what a thread is at that has left the last section that it was in: no object is fresh for it any more
abbrev pub left_last : Activity → Activity
left_last a = with_fresh [] (going_on a 0 (advanced a.top))

-- the state with this thread, these objects and this holding
abbrev pub after : State → ℕ → Thread → List Object → Holding → State
after s t thread objects holding = record { objects = objects; holding = holding; threads = slice_set s.threads t thread }

-- the register holds the value
abbrev pub Reads : At → ℕ → Value → Type 0
Reads at register value = slice_get at.activity.top.regs register ≡ Some value

-- the register holds the address of the cell
abbrev pub ReadsAddress : At → ℕ → Cell → Type 0
ReadsAddress at register cell = Reads at register (Addr cell.object cell.offset)

-- whether the thread may access the cell so
abbrev pub is_allowed : At → Effect → Cell → Bool
is_allowed at = is_protected (cover at.state.holding at.activity.fresh) at.state.objects at.thread at.activity.depth

-- the thread continues at its next instruction, with the value in the register
abbrev pub Sets : At → ℕ → Value → State → Type 0
Sets at register value new =
    new ≡ after at.state at.thread (Running (going_on at.activity at.activity.depth (advanced_with register value at.activity.top))) at.state.objects at.state.holding

-- the thread continues at its next instruction, in so many sections, over these objects and under this holding
abbrev pub ContinuesAt : At → ℕ → List Object → Holding → State → Type 0
ContinuesAt at depth objects holding new =
    new ≡ after at.state at.thread (Running (going_on at.activity depth (advanced at.activity.top))) objects holding

-- the thread continues at this place of the code
abbrev pub GoesTo : At → ℕ → State → Type 0
GoesTo at target new =
    new ≡ after at.state at.thread (Running (going_on at.activity at.activity.depth (placed_at target at.activity.top))) at.state.objects at.state.holding

-- the thread has failed, and holds nothing
abbrev pub Fails : At → Fault → State → Type 0
Fails at f new = new ≡ after at.state at.thread (Failed f) at.state.objects (release at.state.holding at.thread)

-- whether both values are integers
abbrev pub are_integers : Value → Value → Bool
are_integers (Int x) (Int y) = true
are_integers x y = false

-- whether a jump that asks for zero goes to its target: at the integer 0 and at null
abbrev pub is_zero : Value → Bool
is_zero (Int x) = int_eq x (pos 0)
is_zero Null = true
is_zero (Addr object offset) = false

-- so, of the register's value
abbrev pub With : At → ℕ → (Value → Type 0) → Type 0
With at register IsSo = (value : Value) × Reads at register value × IsSo value

-- so, of the values of two registers
abbrev pub WithTwo : At → ℕ → ℕ → (Value → Value → Type 0) → Type 0
WithTwo at left right IsSo = (x : Value) × (y : Value) × Reads at left x × Reads at right y × IsSo x y

-- so, of the integers in two registers
abbrev pub WithIntegers : At → ℕ → ℕ → (ℤ → ℤ → Type 0) → Type 0
WithIntegers at left right IsSo = (x : ℤ) × (y : ℤ) × Reads at left (Int x) × Reads at right (Int y) × IsSo x y

-- the thread continues at its next instruction, with 1 in the register where it is so, and with 0 where it is not
abbrev pub Tells : At → ℕ → Type 0 → State → Type 0
Tells at to IsSo new = (IsSo × Sets at to (Int (pos 1)) new) ⊎ ((¬ IsSo) × Sets at to (Int (pos 0)) new)

-- a jump that is taken where a value is zero: to its target there, and else past it
abbrev pub Branches : At → ℕ → Value → State → Type 0
Branches at target value new =
    ((is_zero value ≡ true) × GoesTo at target new) ⊎ ((is_zero value ≡ false) × ContinuesAt at at.activity.depth at.state.objects at.state.holding new)

-- `add`, `sub` or `lt` of values that are not both integers
abbrev pub FailsIntegers : At → ℕ → ℕ → State → Type 0
FailsIntegers at left right new = WithTwo at left right (λ x y. (are_integers x y ≡ false) × Fails at fault.BadType new)

-- `field`: the address so many cells on, in the same object
pub record MovesOn (at : At) (to from places : ℕ) (new : State) : Type 0 where
  pub cell : Cell
  pub size : ℕ
  pub reads_address : ReadsAddress at from cell
  pub sized : size_of at.state.objects cell.object ≡ Some size
  pub inside : cell.offset + places < size
  pub sets : Sets at to (Addr cell.object (cell.offset + places)) new

-- `field` where the object has no cell so many on
pub record FailsBounds (at : At) (from places : ℕ) (new : State) : Type 0 where
  pub cell : Cell
  pub size : ℕ
  pub reads_address : ReadsAddress at from cell
  pub sized : size_of at.state.objects cell.object ≡ Some size
  pub outside : size ≤ cell.offset + places
  pub fails : Fails at fault.Bounds new

-- `new` where there is room: an object of so many cells and of this class comes last, and the register gets its address
pub record Makes (at : At) (to cells class : ℕ) (new : State) : Type 0 where
  pub room : length at.state.objects < 65536
  pub makes : new ≡ after at.state at.thread (Running (having_made at.image.version at.activity to (length at.state.objects)))
      (at.state.objects ++ new_object class cells ∷ []) at.state.holding

-- `load` of a cell that the thread may read
pub record Loads (at : At) (to address : ℕ) (new : State) : Type 0 where
  pub cell : Cell
  pub value : Value
  pub reads_address : ReadsAddress at address cell
  pub allowed : is_allowed at Read cell ≡ true
  pub there : cell_at at.state.objects cell ≡ Some value
  pub sets : Sets at to value new

-- `store` to a cell that the thread may write
pub record Stores (at : At) (address from : ℕ) (new : State) : Type 0 where
  pub cell : Cell
  pub value : Value
  pub reads_address : ReadsAddress at address cell
  pub reads_value : Reads at from value
  pub allowed : is_allowed at Write cell ≡ true
  pub goes_on : ContinuesAt at at.activity.depth (written at.state.objects cell value) at.state.holding new

-- an access by a register that holds null
abbrev pub FailsNull : At → ℕ → State → Type 0
FailsNull at address new = Reads at address Null × Fails at fault.Null new

-- an access by a register that holds an integer
abbrev pub FailsType : At → ℕ → State → Type 0
FailsType at address new = (x : ℤ) × Reads at address (Int x) × Fails at fault.BadType new

-- an access, by a register that holds the cell's address, outside all sections, or to a cell that neither the thread's
-- locks nor its fresh objects allow
pub record FailsUnprotected (at : At) (address : ℕ) (cell : Cell) (expected effect : Effect) (new : State) : Type 0 where
  pub reads_address : ReadsAddress at address cell
  pub forbidden : is_allowed at expected cell ≡ false
  pub named : effect ≡ expected
  pub fails : Fails at (fault.Unprotected cell effect) new

-- `call` with room for a frame: the caller goes to its next instruction, and a frame of the function begins above it,
-- its parameters copied from the caller's registers; its value will go to the caller's register
pub record Calls (at : At) (to first function : ℕ) (new : State) : Type 0 where
  pub callee : Function
  pub room : frame_count at.activity < 256
  pub is : slice_get at.image.functions function ≡ Some callee
  pub calls : new ≡ after at.state at.thread (Running (called at.image at.activity to first function)) at.state.objects at.state.holding

-- `ret` from a frame with one below: it ends, and its value goes to the register below that awaits it
pub record ReturnsTo (at : At) (from : ℕ) (new : State) : Type 0 where
  pub caller : Frame
  pub others : List Frame
  pub to : ℕ
  pub value : Value
  pub waiting : at.activity.below ≡ caller ∷ others
  pub awaits : at.activity.top.result ≡ Some to
  pub reads_value : Reads at from value
  pub returns : new ≡ after at.state at.thread (Running (returned at.activity (with_register to value caller) others)) at.state.objects at.state.holding

-- `ret` from the last frame, outside all sections: the thread ends with the register's value
pub record Returns (at : At) (from : ℕ) (new : State) : Type 0 where
  pub value : Value
  pub last : at.activity.below ≡ []
  pub outside : at.activity.depth ≡ 0
  pub reads_value : Reads at from value
  pub ends : new ≡ after at.state at.thread (Done value) at.state.objects at.state.holding

-- `acq` inside a section counts the section, and looks at no lock
pub record Nests (at : At) (new : State) : Type 0 where
  pub inside : 0 < at.activity.depth
  pub room : at.activity.depth < 255
  pub goes_on : ContinuesAt at (at.activity.depth + 1) at.state.objects at.state.holding new

-- what `acq` asks for outside all sections: the request of its list in the registers and the objects of this state
pub record Asks (at : At) (list : ℕ) (request : Request) : Type 0 where
  pub locks : List Lock
  pub outside : at.activity.depth ≡ 0
  pub listed : slice_get at.image.lists list ≡ Some locks
  pub is : request ≡ request_of at.state.objects at.activity.top.regs locks

-- `acq` outside all sections, where all that it asks goes with what the other threads hold
pub record Enters (at : At) (list : ℕ) (new : State) : Type 0 where
  pub request : Request
  pub asks : Asks at list request
  pub free : CanGrant at.state.holding at.thread request
  pub goes_on : ContinuesAt at 1 at.state.objects (grant at.state.holding at.thread request) new

-- `acq` outside all sections, where some of what it asks does not: nothing changes
pub record Waits (at : At) (list : ℕ) (new : State) : Type 0 where
  pub request : Request
  pub asks : Asks at list request
  pub taken : ¬ CanGrant at.state.holding at.thread request
  pub same : new ≡ at.state

-- `rel` inside an inner section counts it off
pub record Unnests (at : At) (new : State) : Type 0 where
  pub inner : 1 < at.activity.depth
  pub goes_on : ContinuesAt at (at.activity.depth - 1) at.state.objects at.state.holding new

-- `rel` of the outermost section gives all back, and no object is fresh any more
pub record Leaves (at : At) (new : State) : Type 0 where
  pub outer : at.activity.depth ≡ 1
  pub leaves : new ≡ after at.state at.thread (Running (left_last at.activity)) at.state.objects (release at.state.holding at.thread)

-- a running thread's instruction, its reply and the state after it: the lines of the table
abbrev pub Line : At → Instr → Reply → State → Type 0
Line at (instr.SetInt to number) reply.Ran new = Sets at to (Int number) new
Line at (instr.SetNull to) reply.Ran new = Sets at to Null new
Line at (instr.Move to from) reply.Ran new = With at from (λ v. Sets at to v new)
Line at (instr.Add to left right) reply.Ran new = WithIntegers at left right (λ x y. Sets at to (Int (int_wrapping_add w32 x y)) new)
Line at (instr.Add to left right) (reply.Fault fault.BadType) new = FailsIntegers at left right new
Line at (instr.Subtract to left right) reply.Ran new = WithIntegers at left right (λ x y. Sets at to (Int (int_wrapping_sub w32 x y)) new)
Line at (instr.Subtract to left right) (reply.Fault fault.BadType) new = FailsIntegers at left right new
Line at (instr.LessThan to left right) reply.Ran new = WithIntegers at left right (λ x y. Tells at to (x <ℤ y) new)
Line at (instr.LessThan to left right) (reply.Fault fault.BadType) new = FailsIntegers at left right new
Line at (instr.Equals to left right) reply.Ran new = WithTwo at left right (λ x y. Tells at to (x ≡ y) new)
Line at (instr.GlobalAddress to global) reply.Ran new = Sets at to (Addr global 0) new
Line at (instr.FieldAddress to from places) reply.Ran new = MovesOn at to from places new
Line at (instr.FieldAddress to from places) (reply.Fault fault.Null) new = FailsNull at from new
Line at (instr.FieldAddress to from places) (reply.Fault fault.BadType) new = FailsType at from new
Line at (instr.FieldAddress to from places) (reply.Fault fault.Bounds) new = FailsBounds at from places new
Line at (instr.Load to address) reply.Ran new = Loads at to address new
Line at (instr.Load to address) (reply.Fault fault.Null) new = FailsNull at address new
Line at (instr.Load to address) (reply.Fault fault.BadType) new = FailsType at address new
Line at (instr.Load to address) (reply.Fault (fault.Unprotected cell effect)) new = FailsUnprotected at address cell Read effect new
Line at (instr.Store address from) reply.Ran new = Stores at address from new
Line at (instr.Store address from) (reply.Fault fault.Null) new = FailsNull at address new
Line at (instr.Store address from) (reply.Fault fault.BadType) new = FailsType at address new
Line at (instr.Store address from) (reply.Fault (fault.Unprotected cell effect)) new = FailsUnprotected at address cell Write effect new
Line at (instr.New to cells class) reply.Ran new = Makes at to cells class new
Line at (instr.New to cells class) (reply.Fault fault.Full) new = (length at.state.objects ≡ 65536) × Fails at fault.Full new
Line at (instr.Jump target) reply.Ran new = GoesTo at target new
Line at (instr.JumpIfZero test target) reply.Ran new = With at test (λ v. Branches at target v new)
Line at (instr.Call to first function) reply.Ran new = Calls at to first function new
Line at (instr.Call to first function) (reply.Fault fault.Stack) new = (frame_count at.activity ≡ 256) × Fails at fault.Stack new
Line at (instr.Return from) reply.Ran new = ReturnsTo at from new ⊎ Returns at from new
Line at (instr.Return from) (reply.Fault fault.Open) new = (at.activity.below ≡ []) × (0 < at.activity.depth) × Fails at fault.Open new
Line at (instr.Output from) (reply.Out value) new = Reads at from value × ContinuesAt at at.activity.depth at.state.objects at.state.holding new
Line at (instr.Acquire list) reply.Ran new = Nests at new ⊎ Enters at list new
Line at (instr.Acquire list) reply.Blocked new = Waits at list new
Line at (instr.Acquire list) (reply.Fault fault.Deep) new = (at.activity.depth ≡ 255) × Fails at fault.Deep new
Line at instr.Release reply.Ran new = Unnests at new ⊎ Leaves at new
Line at instr.Release (reply.Fault fault.NoSection) new = (at.activity.depth ≡ 0) × Fails at fault.NoSection new
Line at i r new = ⊥

-- a step of what stands at the thread's number: a running thread does the instruction that it is at, an ended one nothing
abbrev pub StepOf : Image → State → ℕ → Option Thread → Reply → State → Type 0
StepOf image old t None r new = ⊥
StepOf image old t (Some (Running activity)) r new =
    (i : Instr) × (slice_get image.code activity.top.pc ≡ Some i)
    × Line (record { image = image; state = old; thread = t; activity = activity }) i r new
StepOf image old t (Some (Done value)) r new = (r ≡ reply.Ended) × (new ≡ old)
StepOf image old t (Some (Failed f)) r new = (r ≡ reply.Ended) × (new ≡ old)

-- a step of thread t in the old state gives this reply and the new state
abbrev pub Step : Image → State → ℕ → Reply → State → Type 0
Step image old t r new = StepOf image old t (slice_get old.threads t) r new
