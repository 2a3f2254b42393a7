-- Neighbouring steps that change places.
use Rattle.std.specs.Prelude.{◌≡◌, ◌≢◌, ◌<◌, ℕ, List, [], ◌∷◌, Some, slice_get}
use Rattle.asl_code.specs.declared.image.Image.{Image}
use Rattle.asl_code.specs.declared.instr.Instr.TheVariants as instr
use Rattle.asl_lock_forest.specs.Holding.{can_grant}
use Rattle.asl_machine.specs.State.{Activity, Running, State}
use Rattle.asl_machine.specs.Request.{request_of, locks_of}
use Rattle.asl_machine.specs.WellFormed.{SatisfiesInvariant}
use Rattle.asl_machine.specs.StepFunction.{step_of}
use Rattle.asl_machine.specs.Run.{start_of}
use Rattle.asl_machine.specs.ComputedRun.{state_after}
use Rattle.asl_atomicity.specs.Serial.{heard, IsInside}

-- every thread of a list is another one
abbrev pub AreOthers : ℕ → List ℕ → Type 0
AreOthers t [] = Unit {0}
AreOthers t (u ∷ us) = (u ≢ t) × AreOthers t us

-- some schedule, of threads that are there and others, leads so many threads from their start to the state
abbrev pub InRun : Image → ℕ → State → Type 0
InRun image count s = (schedule : List ℕ) × (s ≡ state_after image (start_of image count) schedule)

-- a sound state of a run
abbrev pub Stands : Image → ℕ → State → Type 0
Stands image count s = SatisfiesInvariant image s × InRun image count s

-- the thread runs and is inside a section
pub record InSection (s : State) (thread : ℕ) : Type 0 where
  pub activity : Activity
  pub runs : slice_get s.threads thread ≡ Some (Running activity)
  pub inside : 0 < activity.depth

-- two neighbouring steps can change places, where the later one is inside a section
abbrev pub CanSwap : Image → ℕ → Type 0
CanSwap image count = (s : State) (u t : ℕ) → Stands image count s → u ≢ t → heard (step_of image s u).reply ≢ [] → IsInside image s t →
    let one = step_of image (step_of image s u).state t in
    let first = step_of image s t in
    let other = step_of image first.state u in
    (one.reply ≡ first.reply) × ((step_of image s u).reply ≡ other.reply) × (one.state ≡ other.state)

-- what thread u asks for at the entry of a section, and whether it is free, is as it was after t's step
pub record EntryUnseen (image : Image) (s : State) (u t : ℕ) : Type 0 where
  pub request : (b : Activity) (list : ℕ) → slice_get s.threads u ≡ Some (Running b) → slice_get image.code b.top.pc ≡ Some (instr.Acquire list) → b.depth ≡ 0 →
      request_of (step_of image s t).state.objects b.top.regs (locks_of image list) ≡ request_of s.objects b.top.regs (locks_of image list)
  pub free : (b : Activity) (list : ℕ) → slice_get s.threads u ≡ Some (Running b) → slice_get image.code b.top.pc ≡ Some (instr.Acquire list) → b.depth ≡ 0 →
      can_grant (step_of image s t).state.holding u (request_of s.objects b.top.regs (locks_of image list)) ≡ can_grant s.holding u (request_of s.objects b.top.regs (locks_of image list))

-- no step inside a section changes what another thread that enters one asks for, or is given
abbrev pub EntriesUnseen : Image → ℕ → Type 0
EntriesUnseen image count = (s : State) (u t : ℕ) → Stands image count s → u ≢ t → heard (step_of image s u).reply ≢ [] → InSection s t → EntryUnseen image s u t
