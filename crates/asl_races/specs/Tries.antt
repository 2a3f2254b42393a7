-- Tries to enter a section that read no cell which another thread may be writing (docs/RACES.md, "Tries"). Such a try evaluates its list
-- with care: before it reads a cell, it looks whether another thread covers the cell for writing; if so, it stops, and is refused.
use Rattle.std.specs.Prelude.{◌≡◌, ◌≢◌, ◌<◌, ◌⊎◌, ℕ, suc, true, List, length, Some, slice_get}
use Rattle.asl_code.specs.declared.image.Image.{Image}
use Rattle.asl_code.specs.declared.lock.Lock.{Lock}
use Rattle.asl_code.specs.declared.value.Value.{Value}
use Rattle.asl_code.specs.declared.value.Cell.{Cell}
use Rattle.asl_code.specs.declared.value.Effect.{Effect}
use Rattle.asl_code.specs.declared.value.Effect.TheVariants.{Read, Write}
use Rattle.asl_mode_lanes.specs.declared.mode.Mode.TheVariants.{X}
use Rattle.asl_lock_forest.specs.declared.node.Node.{Node}
use Rattle.asl_lock_forest.specs.declared.node.Node.TheVariants.{Root, Class, Leaf}
use Rattle.asl_lock_forest.specs.Holding.{Holding, held, asked, Covers, CanGrant}
use Rattle.asl_machine.specs.State.{Object, Activity, State, class_of}
use Rattle.asl_machine.specs.Request.{request_of, locks_of}
use Rattle.asl_machine.specs.Run.{start_of}
use Rattle.asl_atomicity.specs.Serial.{TakenStep, IsRun, IsAtEntry}
use Rattle.asl_races.specs.Visits.{Visit, visit, visited}
use Rattle.asl_races.specs.Races.{GivesBack, IsGranted, requested, Accesses, HappensBefore}

-- ---- the evaluation of a list with care

-- another thread covers the cell for writing
pub record IsHeldByAnother (h : Holding) (objects : List Object) (thread : ℕ) (cell : Cell) : Type 0 where
  pub other : ℕ
  pub another : other ≢ thread
  pub class : ℕ
  pub of : class_of objects cell.object ≡ Some class
  pub covers : Covers h other cell class Write

-- with care the thread's evaluation comes as far as this place: another thread covers none of the cells for writing that it reads before
abbrev pub ComesTo : Holding → List Object → ℕ → List Value → List Lock → ℕ → Type 0
ComesTo h objects thread regs locks place =
    (n : ℕ) (cell : Cell) → n < place → slice_get (visited objects regs locks) n ≡ Some (visit cell true) → ¬ (IsHeldByAnother h objects thread cell)

-- it reads the cell
pub record ReadsWithCare (h : Holding) (objects : List Object) (thread : ℕ) (regs : List Value) (locks : List Lock) (cell : Cell) : Type 0 where
  pub place : ℕ
  pub is : slice_get (visited objects regs locks) place ≡ Some (visit cell true)
  pub comes : ComesTo h objects thread regs locks (suc place)

-- it comes to a cell of the object
pub record MeetsWithCare (h : Holding) (objects : List Object) (thread : ℕ) (regs : List Value) (locks : List Lock) (object : ℕ) : Type 0 where
  pub place : ℕ
  pub one : Visit
  pub is : slice_get (visited objects regs locks) place ≡ Some one
  pub of : one.cell.object ≡ object
  pub comes : ComesTo h objects thread regs locks place

-- the try is granted: the evaluation comes to its end, and what the list asks for can be granted
pub record IsGrantedWithCare (h : Holding) (objects : List Object) (thread : ℕ) (regs : List Value) (locks : List Lock) : Type 0 where
  pub comes : ComesTo h objects thread regs locks (length (visited objects regs locks))
  pub free : CanGrant h thread (request_of objects regs locks)

-- in each state that a run of so many threads leads to, at each entry of a section, such a try is granted exactly where the table grants
abbrev pub GrantsWithCare : Image → ℕ → Type 0
GrantsWithCare image count =
    (run : List TakenStep) (s : State) (thread list : ℕ) (a : Activity) → IsRun image (start_of image count) run s → IsAtEntry image s thread list a →
    (CanGrant s.holding thread (request_of s.objects a.top.regs (locks_of image list)) → IsGrantedWithCare s.holding s.objects thread a.top.regs (locks_of image list))
    × (IsGrantedWithCare s.holding s.objects thread a.top.regs (locks_of image list) → CanGrant s.holding thread (request_of s.objects a.top.regs (locks_of image list)))

-- it stops at this place, before it reads the cell there
pub record StopsAt (h : Holding) (objects : List Object) (thread : ℕ) (regs : List Value) (locks : List Lock) (place : ℕ) : Type 0 where
  pub cell : Cell
  pub is : slice_get (visited objects regs locks) place ≡ Some (visit cell true)
  pub comes : ComesTo h objects thread regs locks place
  pub held : IsHeldByAnother h objects thread cell

-- what may come of such a try: it is granted; it is refused at its end, since another thread is in its way; it stops at a place
pub data Outcome : Type 0 where
  Granted : Outcome
  Refused : Outcome
  Stopped : ℕ → Outcome

-- this comes of the try of the thread, whose registers these are, to enter a section with this list
abbrev pub IsOutcome : Holding → List Object → ℕ → List Value → List Lock → Outcome → Type 0
IsOutcome h objects thread regs locks Granted = IsGrantedWithCare h objects thread regs locks
IsOutcome h objects thread regs locks Refused =
    ComesTo h objects thread regs locks (length (visited objects regs locks)) × (¬ CanGrant h thread (request_of objects regs locks))
IsOutcome h objects thread regs locks (Stopped place) = StopsAt h objects thread regs locks place

-- ---- what such tries read, and what orders it

-- the step is of a thread at an entry, and its try, granted or refused, reads the cell
pub record TriesToRead (image : Image) (step : TakenStep) (cell : Cell) : Type 0 where
  pub list : ℕ
  pub activity : Activity
  pub entry : IsAtEntry image step.before step.thread list activity
  pub reads : ReadsWithCare step.before.holding step.before.objects step.thread activity.top.regs (locks_of image list) cell

-- and it comes to a cell of the object
pub record MeetsInTry (image : Image) (step : TakenStep) (object : ℕ) : Type 0 where
  pub list : ℕ
  pub activity : Activity
  pub entry : IsAtEntry image step.before step.thread list activity
  pub meets : MeetsWithCare step.before.holding step.before.objects step.thread activity.top.regs (locks_of image list) object

-- the step accesses the cell, or a try reads it
abbrev pub AccessesOrTries : Image → TakenStep → Cell → Effect → Type 0
AccessesOrTries image step cell effect = Accesses image step cell effect ⊎ ((effect ≡ Read) × TriesToRead image step cell)

-- the try has looked whether another thread holds the node in X: it is the leaf, the class or the root of a cell that it reads
pub record LooksAt (image : Image) (step : TakenStep) (node : Node) : Type 0 where
  pub cell : Cell
  pub tries : TriesToRead image step cell
  pub class : ℕ
  pub of : class_of step.before.objects cell.object ≡ Some class
  pub is : (node ≡ Leaf cell class) ⊎ (node ≡ Class class) ⊎ (node ≡ Root)

-- a step of a run happens before another; or it gives back a node that was held in X, before a try that looks at the node; or it is such a
-- try, before one that is granted the node in X; or it comes so before a step between, and that before the other
pub data HappensBeforeWithTries (image : Image) (run : List TakenStep) : ℕ → ℕ → Type 0 where
  Happens : (i j : ℕ) → HappensBefore image run i j → HappensBeforeWithTries image run i j
  IsSeen : (i j : ℕ) (one other : TakenStep) (node : Node) → i < j → slice_get run i ≡ Some one → slice_get run j ≡ Some other →
      GivesBack image one → held one.before.holding one.thread node ≡ X → LooksAt image other node → HappensBeforeWithTries image run i j
  Sees : (i j : ℕ) (one other : TakenStep) (node : Node) → i < j → slice_get run i ≡ Some one → slice_get run j ≡ Some other →
      LooksAt image one node → (granted : IsGranted image other) → asked (requested image other granted) node ≡ X → HappensBeforeWithTries image run i j
  Between : (i k j : ℕ) → HappensBeforeWithTries image run i k → HappensBeforeWithTries image run k j → HappensBeforeWithTries image run i j
