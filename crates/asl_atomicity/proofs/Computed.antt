-- What specs/Serial and specs/Renamed say of runs by the instruction table, said of schedules and the computed step. The proofs
-- are of these; proofs/ByTable goes from the one to the other.
use Rattle.std.specs.Prelude.{◌≡◌, ◌≢◌, ◌<◌, ◌==◌, ◌⊎◌, ◌++◌, ℕ, true, List, [], ◌∷◌, map as each, Option, None, Some, All, length, if◌then◌else◌}
use Rattle.asl_code.specs.declared.image.Image.{Image}
use Rattle.asl_lock_forest.specs.Holding.{can_grant, grant}
use Rattle.asl_machine.specs.declared.fault.Fault.TheVariants as fault
use Rattle.asl_machine.specs.declared.reply.Reply.{Reply}
use Rattle.asl_machine.specs.declared.reply.Reply.TheVariants as reply
use Rattle.asl_machine.specs.State.{Activity, State, depth_at}
use Rattle.asl_machine.specs.Run.{IsReached, start_of}
use Rattle.asl_machine.specs.ComputedRun.{state_after}
use Rattle.asl_machine.specs.Request.{request_of, locks_of}
use Rattle.asl_machine.specs.StepFunction.{step_of}
use Rattle.asl_atomicity.specs.Serial.{heard, is_outside, IsInside, ListCovered, IsAtEntry}
use Rattle.asl_atomicity.specs.Renamed.{Renaming, reply_by, IsRenamed, Keeps}

-- what a thread is told in a schedule
abbrev pub told : Image → State → ℕ → List ℕ → List Reply
told image s thread [] = []
told image s thread (t ∷ ts) = (if t == thread then heard (step_of image s t).reply else []) ++ told image (step_of image s t).state thread ts

-- the thread, if its step is outside all sections and counts
abbrev pub outside_of : Image → State → ℕ → List ℕ
outside_of image s t = if is_outside (depth_at s.threads t) then each (λ r. t) (heard (step_of image s t).reply) else []

-- the threads of the steps outside sections that count, in their order
abbrev pub outside : Image → State → List ℕ → List ℕ
outside image s [] = []
outside image s (t ∷ ts) = outside_of image s t ++ outside image (step_of image s t).state ts

-- something is heard of each step
abbrev pub AllCount : Image → State → List ℕ → Type 0
AllCount image s [] = Unit {0}
AllCount image s (t ∷ ts) = (heard (step_of image s t).reply ≢ []) × AllCount image (step_of image s t).state ts

-- each step inside a section directly follows one of its own thread
abbrev pub IsSerial : Image → State → Option ℕ → List ℕ → Type 0
IsSerial image s before [] = Unit {0}
IsSerial image s before (t ∷ ts) = ((depth_at s.threads t ≡ 0) ⊎ (before ≡ Some t)) × IsSerial image (step_of image s t).state (Some t) ts

-- two schedules lead to one state, and tell each thread the same
abbrev pub AreAlike : Image → State → List ℕ → List ℕ → Type 0
AreAlike image s one other = (state_after image s one ≡ state_after image s other) × ((thread : ℕ) → told image s thread one ≡ told image s thread other)

-- the schedule has a serial one, in which every step counts, that ends alike
pub record HasSerial (image : Image) (count : ℕ) (schedule : List ℕ) : Type 0 where
  pub serial : List ℕ
  pub counts : AllCount image (start_of image count) serial
  pub is_serial : IsSerial image (start_of image count) None serial
  pub alike : AreAlike image (start_of image count) schedule serial
  pub order : outside image (start_of image count) serial ≡ outside image (start_of image count) schedule

-- no step of the run inside a section is a `new`
abbrev pub MakesOutside : Image → State → List ℕ → Type 0
MakesOutside image s [] = Unit {0}
MakesOutside image s (t ∷ ts) = ((depth_at s.threads t ≡ 0) ⊎ IsInside image s t) × MakesOutside image (step_of image s t).state ts

-- in each reached state, who is granted the list of an entry covers what its expressions read
abbrev pub IsGuarded : Image → ℕ → Type 0
IsGuarded image count = (s : State) (thread list : ℕ) (a : Activity) → IsReached image count s → IsAtEntry image s thread list a →
    can_grant s.holding thread (request_of s.objects a.top.regs (locks_of image list)) ≡ true →
    ListCovered (grant s.holding thread (request_of s.objects a.top.regs (locks_of image list))) thread s.objects a.top.regs (locks_of image list)

-- any run of so many threads in which no step inside a section is a `new` has a serial one
abbrev pub HasSerialRuns : Image → ℕ → Type 0
HasSerialRuns image count = (schedule : List ℕ) → All (λ t. t < count) schedule → MakesOutside image (start_of image count) schedule → HasSerial image count schedule

-- the schedule has a serial one, in which every step counts, that leads to the same state and tells each thread the same, but
-- for the numbers of the objects that are no globals
pub record HasSerialUpTo (image : Image) (count : ℕ) (schedule : List ℕ) : Type 0 where
  pub serial : List ℕ
  pub counts : AllCount image (start_of image count) serial
  pub is_serial : IsSerial image (start_of image count) None serial
  pub renaming : Renaming
  pub keeps : Keeps renaming.new (length image.globals) (length (state_after image (start_of image count) schedule).objects)
  pub state : IsRenamed renaming.new (state_after image (start_of image count) schedule) (state_after image (start_of image count) serial)
  pub replies : (thread : ℕ) → told image (start_of image count) thread serial ≡ each (reply_by renaming.new) (told image (start_of image count) thread schedule)
  pub order : outside image (start_of image count) serial ≡ outside image (start_of image count) schedule

-- no step of the run finds that there is no capacity for an object, inside a section
abbrev pub FindsRoomInside : Image → State → List ℕ → Type 0
FindsRoomInside image s [] = Unit {0}
FindsRoomInside image s (t ∷ ts) = ((depth_at s.threads t ≡ 0) ⊎ ((step_of image s t).reply ≢ reply.Fault fault.Full)) × FindsRoomInside image (step_of image s t).state ts

-- any run of so many threads in which no section runs out of objects has a serial one, up to the numbers of objects
abbrev pub HasSerialRunsUpTo : Image → ℕ → Type 0
HasSerialRunsUpTo image count =
    (schedule : List ℕ) → All (λ t. t < count) schedule → FindsRoomInside image (start_of image count) schedule → HasSerialUpTo image count schedule
