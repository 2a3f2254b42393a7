-- Where threads stand: which sections are open at their frames, and in which region each frame is (docs/SOUNDNESS.md, "First
-- pass: classes and structure").
use Rattle.std.specs.Prelude.{◌≡◌, ℕ, ◌+◌, Bool, true, false, ◌||◌, List, [], ◌∷◌, length, Option, Some, option_map, if◌then◌else◌}
use Rattle.asl_machine.specs.State.{Frame, Activity, State, activity_at}
use Rattle.asl_lower.specs.Lowered.{Lowered}
use Rattle.asl_lower.specs.OpenSections.{open_at, IsBare, IsInner}
use Rattle.asl_lower.specs.Regions.{Region, Body, Inside, outermost}

-- whether one of the sections is open
abbrev pub is_some_open : List ℕ → Bool
is_some_open [] = false
is_some_open (s ∷ around) = true

-- whether a section is open where one of the frames stands
abbrev pub is_inside : Lowered → List Frame → Bool
is_inside l [] = false
is_inside l (f ∷ fs) = is_some_open (open_at l.code f.pc) || is_inside l fs

-- how many sections are open at all frames together
abbrev pub opened : Lowered → List Frame → ℕ
opened l [] = 0
opened l (f ∷ fs) = length (open_at l.code f.pc) + opened l fs

-- a function above a frame in a section is inner, every other one is bare
abbrev pub IsOfKind : Lowered → Bool → ℕ → Type 0
IsOfKind l true function = IsInner l function
IsOfKind l false function = IsBare l function

-- the function of each of these frames is of its kind, by whether a section is open at a frame below it
abbrev pub AreOfKinds : Lowered → List Frame → Type 0
AreOfKinds l [] = Unit {0}
AreOfKinds l (f ∷ fs) = IsOfKind l (is_inside l fs) f.function × AreOfKinds l fs

-- the depth of the thread is the number of the sections that are open at its frames, and their functions are of their kinds
pub record IsNestedAt (l : Lowered) (a : Activity) : Type 0 where
  pub depth : a.depth ≡ opened l (a.top ∷ a.below)
  pub kinds : AreOfKinds l (a.top ∷ a.below)

-- so it is of each running thread
abbrev pub AreNested : Lowered → State → Type 0
AreNested l s = (t : ℕ) (a : Activity) → activity_at s.threads t ≡ Some a → IsNestedAt l a

-- the region of a frame with these below it, if it is in one: the body of its function above a frame in a section, else the
-- outermost section that is open where it stands
abbrev pub region_of : Lowered → Frame → List Frame → Option Region
region_of l f below = if is_inside l below then Some (Body f.function) else option_map Inside (outermost (open_at l.code f.pc))
