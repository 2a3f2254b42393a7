-- The kinds of lines in the instruction table. There are some fifty lines, one for each instruction and each reply that it can give, but
-- eleven kinds by what they leave. The lines are gone through here, so that what is said of each line is proved of each kind.
use Rattle.std.proofs.Common.{◌≡◌, ◌≢◌, ℕ, pos, ◌+◌, ◌-◌, ◌<◌, true, Some, None, slice_get, refl, inl, inr, arith}
use Rattle.asl_code.specs.declared.image.Image.{Image}
use Rattle.asl_code.specs.declared.instr.Instr.{Instr}
use Rattle.asl_code.specs.declared.instr.Instr.TheVariants as instr
use Rattle.asl_code.specs.declared.value.Value.{Value}
use Rattle.asl_code.specs.declared.value.Value.TheVariants.{Int, Null, Addr}
use Rattle.asl_code.specs.declared.value.Cell.{Cell}
use Rattle.asl_code.specs.declared.value.Effect.TheVariants.{Read}
use Rattle.asl_machine.specs.declared.fault.Fault.{Fault}
use Rattle.asl_machine.specs.declared.fault.Fault.TheVariants as fault
use Rattle.asl_machine.specs.declared.reply.Reply.{Reply}
use Rattle.asl_machine.specs.declared.reply.Reply.TheVariants as reply
use Rattle.asl_machine.specs.State.{Activity, Thread, Running, Done, Failed, State, cell_at}
use Rattle.asl_machine.specs.Step.{At, Line, StepOf, Step, Reads, ReadsAddress, is_allowed, Sets, Fails, Makes, Stores, Calls, ReturnsTo, Returns, Enters, Waits, Leaves, after, placed_at, going_on}
use Rattle.asl_machine.proofs.ValueLines.{at_of}

-- ---- faults

-- a line that replies with a fault is one whose thread fails by it
pub line_fails : (at : At) (i : Instr) (f : Fault) (new : State) → Line at i (reply.Fault f) new → Fails at f new
line_fails at (instr.Add x y z) fault.BadType new e = e.4.1
line_fails at (instr.Subtract x y z) fault.BadType new e = e.4.1
line_fails at (instr.LessThan x y z) fault.BadType new e = e.4.1
line_fails at (instr.FieldAddress x y n) fault.Null new e = e.1
line_fails at (instr.FieldAddress x y n) fault.BadType new e = e.2
line_fails at (instr.FieldAddress x y n) fault.Bounds new e = e.fails
line_fails at (instr.Load x y) fault.Null new e = e.1
line_fails at (instr.Load x y) fault.BadType new e = e.2
line_fails at (instr.Load x y) (fault.Unprotected cell effect) new e = e.fails
line_fails at (instr.Store x y) fault.Null new e = e.1
line_fails at (instr.Store x y) fault.BadType new e = e.2
line_fails at (instr.Store x y) (fault.Unprotected cell effect) new e = e.fails
line_fails at (instr.New x n class) fault.Full new e = e.1
line_fails at (instr.Call x first g) fault.Stack new e = e.1
line_fails at (instr.Return from) fault.Open new e = e.2
line_fails at (instr.Acquire list) fault.Deep new e = e.1
line_fails at instr.Release fault.NoSection new e = e.1
line_fails at i f new e = absurd e

-- ---- kinds

-- where a value comes from that a register is set to: it is no address; another register holds it; it is the address of a global, or one
-- in an object in which a register has an address; it stands in a cell that the thread may read
pub data Comes (at : At) (i : Instr) (v : Value) : Type 0 where
  NoAddress : ((o k : ℕ) → v ≢ Addr o k) → Comes at i v
  Copied : (from : ℕ) → Reads at from v → Comes at i v
  OfGlobal : (to global : ℕ) → i ≡ instr.GlobalAddress to global → v ≡ Addr global 0 → Comes at i v
  Moved : (from offset : ℕ) (cell : Cell) → ReadsAddress at from cell → v ≡ Addr cell.object offset → Comes at i v
  Loaded : (address : ℕ) (cell : Cell) → ReadsAddress at address cell → is_allowed at Read cell ≡ true → cell_at at.state.objects cell ≡ Some v → Comes at i v

-- a line sets a register; goes on elsewhere, in a section if it was in one; stores; makes an object; calls; returns to a caller; ends its
-- thread; enters the first section; waits at one; leaves the last one; fails
pub data Kind (at : At) (i : Instr) (r : Reply) (new : State) : Type 0 where
  Setting : (to : ℕ) (v : Value) → Comes at i v → Sets at to v new → Kind at i r new
  Going : (depth target : ℕ) → (0 < at.activity.depth → 0 < depth) → new ≡ after at.state at.thread (Running (going_on at.activity depth (placed_at target at.activity.top))) at.state.objects at.state.holding → Kind at i r new
  Storing : (address from : ℕ) → i ≡ instr.Store address from → r ≡ reply.Ran → Stores at address from new → Kind at i r new
  Making : (to cells class : ℕ) → i ≡ instr.New to cells class → r ≡ reply.Ran → Makes at to cells class new → Kind at i r new
  Calling : (to first function : ℕ) → Calls at to first function new → Kind at i r new
  Returning : (from : ℕ) → ReturnsTo at from new → Kind at i r new
  Ending : (from : ℕ) → Returns at from new → Kind at i r new
  Entering : (list : ℕ) → i ≡ instr.Acquire list → r ≡ reply.Ran → Enters at list new → Kind at i r new
  Waiting : (list : ℕ) → Waits at list new → Kind at i r new
  Leaving : i ≡ instr.Release → r ≡ reply.Ran → Leaves at new → Kind at i r new
  Failing : (f : Fault) → r ≡ reply.Fault f → Fails at f new → Kind at i r new

-- each line is of a kind
pub line_kind : (at : At) (i : Instr) (r : Reply) (new : State) → Line at i r new → Kind at i r new
line_kind at (instr.SetInt x n) reply.Ran new e = Setting x (Int n) (NoAddress (λ o k f. cc)) e
line_kind at (instr.SetNull x) reply.Ran new e = Setting x Null (NoAddress (λ o k f. cc)) e
line_kind at (instr.Move x y) reply.Ran new e = Setting x e.0 (Copied y e.1) e.2
line_kind at (instr.Add x y z) reply.Ran new e = Setting x (Int _) (NoAddress (λ o k f. cc)) e.4
line_kind at (instr.Subtract x y z) reply.Ran new e = Setting x (Int _) (NoAddress (λ o k f. cc)) e.4
line_kind at (instr.LessThan x y z) reply.Ran new e =
    elim e.4 [
      | inl h ↦ Setting x (Int (pos 1)) (NoAddress (λ o k f. cc)) h.1
      | inr h ↦ Setting x (Int (pos 0)) (NoAddress (λ o k f. cc)) h.1
    ]
line_kind at (instr.Equals x y z) reply.Ran new e =
    elim e.4 [
      | inl h ↦ Setting x (Int (pos 1)) (NoAddress (λ o k f. cc)) h.1
      | inr h ↦ Setting x (Int (pos 0)) (NoAddress (λ o k f. cc)) h.1
    ]
line_kind at (instr.GlobalAddress x g) reply.Ran new e = Setting x (Addr g 0) (OfGlobal x g refl refl) e
line_kind at (instr.FieldAddress x y n) reply.Ran new e = Setting x (Addr e.cell.object (e.cell.offset + n)) (Moved y (e.cell.offset + n) e.cell e.reads_address refl) e.sets
line_kind at (instr.Load x y) reply.Ran new e = Setting x e.value (Loaded y e.cell e.reads_address e.allowed e.there) e.sets
line_kind at (instr.Store x y) reply.Ran new e = Storing x y refl refl e
line_kind at (instr.New x n class) reply.Ran new e = Making x n class refl refl e
line_kind at (instr.Jump target) reply.Ran new e = Going at.activity.depth target (λ z. z) e
line_kind at (instr.JumpIfZero x target) reply.Ran new e =
    elim e.2 [
      | inl h ↦ Going at.activity.depth target (λ z. z) h.1
      | inr h ↦ Going at.activity.depth (at.activity.top.pc + 1) (λ z. z) h.1
    ]
line_kind at (instr.Call x first g) reply.Ran new e = Calling x first g e
line_kind at (instr.Return from) reply.Ran new (inl e) = Returning from e
line_kind at (instr.Return from) reply.Ran new (inr e) = Ending from e
line_kind at (instr.Output from) (reply.Out value) new e = Going at.activity.depth (at.activity.top.pc + 1) (λ z. z) e.1
line_kind at (instr.Acquire list) reply.Ran new (inl e) = Going (at.activity.depth + 1) (at.activity.top.pc + 1) (λ z. omega arith) e.goes_on
line_kind at (instr.Acquire list) reply.Ran new (inr e) = Entering list refl refl e
line_kind at (instr.Acquire list) reply.Blocked new e = Waiting list e
line_kind at instr.Release reply.Ran new (inl e) = Going (at.activity.depth - 1) (at.activity.top.pc + 1) (λ z. (let inner = e.inner in omega (arith, inner))) e.goes_on
line_kind at instr.Release reply.Ran new (inr e) = Leaving refl refl e
line_kind at i (reply.Fault f) new e = Failing f refl (line_fails at i f new e)
line_kind at i r new e = absurd e

-- ---- steps

-- a thread that has ended does nothing; a running one does its instruction, by a line of some kind
pub data StepKind (image : Image) (s : State) (t : ℕ) (r : Reply) (new : State) : Type 0 where
  Over : new ≡ s → StepKind image s t r new
  Does : (a : Activity) (i : Instr) → slice_get s.threads t ≡ Some (Running a) → slice_get image.code a.top.pc ≡ Some i → Kind (at_of image s t a) i r new → StepKind image s t r new

pub step_kind : (image : Image) (s : State) (t : ℕ) (r : Reply) (new : State) → Step image s t r new → StepKind image s t r new
step_kind image s t r new step =
    elim (slice_get s.threads t) as (λ o. slice_get s.threads t ≡ o → StepOf image s t o r new → StepKind image s t r new) [
      | None ↦ λ is h. absurd h
      | Some thread ↦ λ is h. by_thread thread is h
    ] refl step
  where
    by_thread : (thread : Thread) → slice_get s.threads t ≡ Some thread → StepOf image s t (Some thread) r new → StepKind image s t r new
    by_thread (Running a) is h = Does a h.0 is h.1 (line_kind (at_of image s t a) h.0 r new h.2)
    by_thread (Done v) is h = Over h.1
    by_thread (Failed f) is h = Over h.1
