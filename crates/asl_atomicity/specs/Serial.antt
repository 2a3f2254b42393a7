-- Runs whose sections do not interleave, and images whose entries are guarded (docs/ATOMICITY.md). That two-phase sections have
-- serial runs is K. P. Eswaran, J. N. Gray, R. A. Lorie, I. L. Traiger, "The Notions of Consistency and Predicate Locks in a
-- Database System" (1976); lists that are evaluated at the entry are this project's. `HasSerialRuns` is what the clause `atomic` of `infer`
-- (asl_emitter), `check` and `compile` says, and asl_theorems of journals; tests/serial compares runs with serial ones.
use Rattle.std.specs.Prelude.{◌≡◌, ◌≢◌, ◌<◌, ◌==◌, ◌⊎◌, ◌++◌, ℕ, Bool, true, List, [], ◌∷◌, map as each, Option, None, Some, All, slice_get, option_and_then, if◌then◌else◌}
use Rattle.asl_code.specs.declared.image.Image.{Image}
use Rattle.asl_code.specs.declared.instr.Instr.TheVariants as instr
use Rattle.asl_code.specs.declared.value.Value.{Value}
use Rattle.asl_code.specs.declared.value.Cell.{Cell}
use Rattle.asl_code.specs.declared.value.Effect.TheVariants.{Read}
use Rattle.asl_code.specs.declared.lock.Lock.{Lock}
use Rattle.asl_code.specs.declared.lock.Lock.TheVariants as lock
use Rattle.asl_code.specs.declared.path.Op.{Op}
use Rattle.asl_code.specs.declared.path.Op.TheVariants.{Deref, Off}
use Rattle.asl_expression.specs.Expression.{base_cell, walked}
use Rattle.asl_lock_forest.specs.Holding.{Holding, Covers, can_grant, grant}
use Rattle.asl_machine.specs.declared.reply.Reply.{Reply}
use Rattle.asl_machine.specs.declared.reply.Reply.TheVariants as reply
use Rattle.asl_machine.specs.State.{Object, Activity, Running, State, class_of, depth_at}
use Rattle.asl_machine.specs.Run.{start_of}
use Rattle.asl_machine.specs.Request.{heap_of, request_of, locks_of}
use Rattle.asl_machine.specs.Step.{Step}

-- a step of a run: the state before it, its thread, and what the thread is told
pub record TakenStep : Type 0 where
  pub before : State
  pub thread : ℕ
  pub reply : Reply

-- the steps are a run from the state to the end: each goes by a line of the instruction table
abbrev pub IsRun : Image → State → List TakenStep → State → Type 0
IsRun image s [] end = end ≡ s
IsRun image s (step ∷ steps) end = (step.before ≡ s) × (new : State) × Step image s step.thread step.reply new × IsRun image new steps end

-- what is heard of a step: nothing of one that is blocked or an ended thread's, for these change nothing
abbrev pub heard : Reply → List Reply
heard reply.Blocked = []
heard reply.Ended = []
heard r = r ∷ []

-- what a thread is told in a run
abbrev pub told : ℕ → List TakenStep → List Reply
told thread [] = []
told thread (step ∷ steps) = (if step.thread == thread then heard step.reply else []) ++ told thread steps

-- something is heard of the step
abbrev pub Counts : TakenStep → Type 0
Counts step = heard step.reply ≢ []

-- the step's thread is in no section before it
abbrev pub IsOutside : TakenStep → Type 0
IsOutside step = depth_at step.before.threads step.thread ≡ 0

-- the same as a test, of how many sections the thread is in
abbrev pub is_outside : ℕ → Bool
is_outside depth = depth == 0

-- the threads of the steps outside sections that count, in their order
abbrev pub outside : List TakenStep → List ℕ
outside [] = []
outside (step ∷ steps) = (if is_outside (depth_at step.before.threads step.thread) then each (λ r. step.thread) (heard step.reply) else []) ++ outside steps

-- each step inside a section directly follows one of its own thread
abbrev pub IsSerial : Option ℕ → List TakenStep → Type 0
IsSerial last [] = Unit {0}
IsSerial last (step ∷ steps) = (IsOutside step ⊎ (last ≡ Some step.thread)) × IsSerial (Some step.thread) steps

-- the run has a serial one, in which every step counts, that leads to the same end, tells each thread the same, and has the steps
-- outside sections, those that enter one among them, in the same order
pub record HasSerial (image : Image) (count : ℕ) (run : List TakenStep) (end : State) : Type 0 where
  pub serial : List TakenStep
  pub is_run : IsRun image (start_of image count) serial end
  pub counts : All Counts serial
  pub is_serial : IsSerial None serial
  pub replies : (thread : ℕ) → told thread serial ≡ told thread run
  pub order : outside serial ≡ outside run

-- the thread is inside a section, and not at a `new`
pub record IsInside (image : Image) (s : State) (thread : ℕ) : Type 0 where
  pub activity : Activity
  pub runs : slice_get s.threads thread ≡ Some (Running activity)
  pub inside : 0 < activity.depth
  pub makes_none : (to cells class : ℕ) → slice_get image.code activity.top.pc ≢ Some (instr.New to cells class)

-- the step is no `new` inside a section
abbrev pub MakesNoneInside : Image → TakenStep → Type 0
MakesNoneInside image step = IsOutside step ⊎ IsInside image step.before step.thread

-- the cells at which an evaluation reads an address are covered for reading
abbrev pub ReadsCovered : Holding → ℕ → List Object → List Op → Option Cell → Type 0
ReadsCovered h thread objects [] cell = Unit {0}
ReadsCovered h thread objects (Off places ∷ ops) cell = ReadsCovered h thread objects ops (option_and_then (walked (heap_of objects) (Off places)) cell)
ReadsCovered h thread objects (Deref ∷ ops) cell =
    ((c : Cell) (class : ℕ) → cell ≡ Some c → class_of objects c.object ≡ Some class → Covers h thread c class Read)
    × ReadsCovered h thread objects ops (option_and_then (walked (heap_of objects) Deref) cell)

-- so for each expression of a list
abbrev pub ListCovered : Holding → ℕ → List Object → List Value → List Lock → Type 0
ListCovered h thread objects regs [] = Unit {0}
ListCovered h thread objects regs (lock.Expr e effect ∷ locks) = ReadsCovered h thread objects e.path (base_cell regs e.base) × ListCovered h thread objects regs locks
ListCovered h thread objects regs (lock.Root effect ∷ locks) = ListCovered h thread objects regs locks
ListCovered h thread objects regs (lock.Class class effect ∷ locks) = ListCovered h thread objects regs locks

-- the thread stands outside all sections before an `acq` with this list
pub record IsAtEntry (image : Image) (s : State) (thread list : ℕ) (a : Activity) : Type 0 where
  pub runs : slice_get s.threads thread ≡ Some (Running a)
  pub at : slice_get image.code a.top.pc ≡ Some (instr.Acquire list)
  pub depth : a.depth ≡ 0

-- in each state that a run leads to, who is granted the list of an entry covers what its expressions read
abbrev pub IsGuarded : Image → ℕ → Type 0
IsGuarded image count =
    (run : List TakenStep) (s : State) (thread list : ℕ) (a : Activity) → IsRun image (start_of image count) run s → IsAtEntry image s thread list a →
    can_grant s.holding thread (request_of s.objects a.top.regs (locks_of image list)) ≡ true →
    ListCovered (grant s.holding thread (request_of s.objects a.top.regs (locks_of image list))) thread s.objects a.top.regs (locks_of image list)

-- any run of so many threads in which no step inside a section is a `new` has a serial one
abbrev pub HasSerialRuns : Image → ℕ → Type 0
HasSerialRuns image count =
    (run : List TakenStep) (end : State) → IsRun image (start_of image count) run end → All (MakesNoneInside image) run → HasSerial image count run end
