-- Objects that a thread has made in its sections and that no other thread has an address of (docs/LOCKS.md, "Fresh
-- objects").
use Rattle.std.specs.Prelude.{◌≡◌, ◌≢◌, ◌<◌, ◌≤◌, ◌⊎◌, ℕ, IsTrue, List, [], ◌∷◌, length, Some, slice_get}
use Rattle.std.specs.Option.{option_map_or}
use Rattle.asl_code.specs.declared.image.Image.{Image}
use Rattle.asl_code.specs.declared.value.Value.{Value}
use Rattle.asl_code.specs.declared.value.Value.TheVariants.{Addr}
use Rattle.asl_code.specs.declared.value.Cell.{Cell}
use Rattle.asl_code.specs.declared.value.Effect.TheVariants.{Write}
use Rattle.asl_code.specs.Versions.{has_fresh}
use Rattle.asl_lock_forest.specs.Holding.{Covers}
use Rattle.asl_machine.specs.Cover.{is_fresh}
use Rattle.asl_machine.specs.State.{Frame, Activity, Thread, State, cell_at, class_of, activity_of, activity_at}

-- the objects that are fresh for a thread: none where it has ended
abbrev pub fresh_of : Thread → List ℕ
fresh_of thread = option_map_or (λ (a : Activity). a.fresh) (activity_of thread) []

-- the objects that are fresh for the thread of this number: none where it has ended or is not there
abbrev pub fresh_at : List Thread → ℕ → List ℕ
fresh_at threads t = option_map_or (λ (a : Activity). a.fresh) (activity_at threads t) []

-- the object is fresh for the thread
abbrev pub IsFreshFor : State → ℕ → ℕ → Type 0
IsFreshFor s t object = IsTrue (is_fresh (fresh_at s.threads t) object)

-- no register has an address in the object
abbrev pub PointElsewhere : ℕ → List Value → Type 0
PointElsewhere object regs = (register offset : ℕ) → slice_get regs register ≢ Some (Addr object offset)

-- no register of the frames has one
abbrev pub AllElsewhere : ℕ → List Frame → Type 0
AllElsewhere object [] = Unit {0}
AllElsewhere object (f ∷ fs) = PointElsewhere object f.regs × AllElsewhere object fs

-- an address in an object that is fresh for the thread may stand in the cell: the cell's object is fresh for the thread
-- too, or it is fresh for nobody and what the thread holds covers the cell for writing
abbrev pub MayHold : State → ℕ → Cell → Type 0
MayHold s t cell =
    IsFreshFor s t cell.object
    ⊎ (((u : ℕ) → ¬ IsFreshFor s u cell.object) × ((class : ℕ) → class_of s.objects cell.object ≡ Some class → Covers s.holding t cell class Write))

-- what holds of fresh objects: there are some only where the image's version has them; a thread outside all sections has
-- none; they are there and no globals; none is fresh for two threads; no frame of another thread has an address in one, and
-- no cell but those that may hold it
pub record AreApart (image : Image) (s : State) : Type 0 where
  pub version : (t object : ℕ) → IsFreshFor s t object → IsTrue (has_fresh image.version)
  pub outside : (t : ℕ) (a : Activity) → activity_at s.threads t ≡ Some a → a.depth ≡ 0 → a.fresh ≡ []
  pub there : (t object : ℕ) → IsFreshFor s t object → (length image.globals ≤ object) × (object < length s.objects)
  pub apart : (t u object : ℕ) → t ≢ u → IsFreshFor s t object → ¬ IsFreshFor s u object
  pub registers : (t u object : ℕ) (a : Activity) → t ≢ u → IsFreshFor s u object → activity_at s.threads t ≡ Some a → AllElsewhere object (a.top ∷ a.below)
  pub cells : (t object offset : ℕ) (cell : Cell) → IsFreshFor s t object → cell_at s.objects cell ≡ Some (Addr object offset) → MayHold s t cell
