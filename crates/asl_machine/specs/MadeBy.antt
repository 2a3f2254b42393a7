-- What an object is fresh by, as history: in a run by the instruction table the thread has made it inside a section, and has
-- been in one ever since (docs/LOCKS.md, "Fresh objects").
use Rattle.std.specs.Prelude.{◌≡◌, ◌<◌, ◌⊎◌, ℕ, List, [], ◌∷◌, length, Some, slice_get}
use Rattle.asl_code.specs.declared.image.Image.{Image}
use Rattle.asl_code.specs.declared.instr.Instr.TheVariants.{New}
use Rattle.asl_machine.specs.declared.reply.Reply.{Reply}
use Rattle.asl_machine.specs.State.{Activity, State, activity_at, depth_at}
use Rattle.asl_machine.specs.Step.{Step}

-- the thread is at a `new` inside a section, and the object of this number is the one that is made next
pub record MakesInside (image : Image) (s : State) (t object : ℕ) : Type 0 where
  pub activity : Activity
  pub to : ℕ
  pub cells : ℕ
  pub class : ℕ
  pub runs : activity_at s.threads t ≡ Some activity
  pub inside : 0 < activity.depth
  pub at_new : slice_get image.code activity.top.pc ≡ Some (New to cells class)
  pub next : object ≡ length s.objects

-- the schedule leads from the state to the end by the table, and in each state on the way, the first and the last among
-- them, the thread is in a section
abbrev pub StaysInside : Image → State → List ℕ → State → ℕ → Type 0
StaysInside image s [] end t = (0 < depth_at s.threads t) × (end ≡ s)
StaysInside image s (u ∷ us) end t =
    (0 < depth_at s.threads t) × ((reply : Reply) × (new : State) × Step image s u reply new × StaysInside image new us end t)

-- the schedule leads from the state to the end by the table; by some step on the way the thread has made the object inside
-- a section, and it has been in one ever since
abbrev pub HasMadeInside : Image → State → List ℕ → State → ℕ → ℕ → Type 0
HasMadeInside image s [] end t object = ⊥
HasMadeInside image s (u ∷ us) end t object =
    (reply : Reply) × (new : State) × Step image s u reply new
    × (((u ≡ t) × MakesInside image s t object × StaysInside image new us end t) ⊎ HasMadeInside image new us end t object)
