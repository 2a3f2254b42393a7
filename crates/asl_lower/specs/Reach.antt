-- Machinery of the proofs, not of the promise: the marks of functions that calls lead to, as src/section_reach.rt makes them.
-- What contracts promise are `IsBare`, `IsInner` and `IsFirstBareAccess` of specs/OpenSections.
use Rattle.std.specs.Prelude.{◌≡◌, ℕ, suc, ◌-◌, ◌<◌, ◌≤◌, Bool, true, false, IsTrue, List, [], ◌∷◌, length, Some, slice_get}
use Rattle.asl_code.specs.declared.instr.Instr.{Instr}
use Rattle.asl_code.specs.declared.instr.Instr.TheVariants as instr
use Rattle.asl_lower.specs.declared.section_reach.Calls.{Calls}
use Rattle.asl_lower.specs.declared.section_reach.Calls.TheVariants as calls
use Rattle.asl_lower.specs.Lowered.{Lowered}
use Rattle.asl_lower.specs.OpenSections.{open_at, is_access, InBody, CallsAt}

-- how many sections are open after an instruction, where so many are open before it
abbrev pub depth_after : Instr → ℕ → ℕ
depth_after (instr.Acquire s) depth = suc depth
depth_after instr.Release depth = depth - 1
depth_after i depth = depth

-- where calls stand: outside all sections, inside one, or anywhere
pub data Where : Type 0 where
  Outside : Where
  Inside : Where
  Anywhere : Where

-- where the calls stand that a `Calls` of the code names
abbrev pub where_of : Calls → Where
where_of calls.Inside = Inside
where_of calls.All = Anywhere

-- so many sections are open there
abbrev pub AreAtDepth : Where → ℕ → Type 0
AreAtDepth Outside depth = depth ≡ 0
AreAtDepth Inside depth = 0 < depth
AreAtDepth Anywhere depth = Unit {0}

-- the instruction at the pc is such a call of the function
pub record IsSuchCall (l : Lowered) (place : Where) (pc callee : ℕ) : Type 0 where
  pub stands : CallsAt l pc callee
  pub depth : AreAtDepth place (length (open_at l.code pc))

-- one of the instructions from a pc up to another is such a call of the function
pub record IsCalled (l : Lowered) (place : Where) (from end callee : ℕ) : Type 0 where
  pub pc : ℕ
  pub low : from ≤ pc
  pub high : pc < end
  pub call : IsSuchCall l place pc callee

-- the function has a mark
abbrev pub IsMarked : List Bool → ℕ → Type 0
IsMarked marks function = slice_get marks function ≡ Some true

-- each function with a mark has it still
abbrev pub KeepsMarks : List Bool → List Bool → Type 0
KeepsMarks old new = (function : ℕ) → IsMarked old function → IsMarked new function

-- all that such calls of a function call has a mark
abbrev pub IsFollowed : Lowered → Where → List Bool → ℕ → Type 0
IsFollowed l place marks function = (pc callee : ℕ) → InBody l function pc → IsSuchCall l place pc callee → IsMarked marks callee

-- so it is of each function with a mark
abbrev pub AreFollowed : Lowered → Where → List Bool → Type 0
AreFollowed l place marks = (function : ℕ) → IsMarked marks function → IsFollowed l place marks function

-- what such calls lead to from the functions with a mark
pub data Reached (l : Lowered) (place : Where) (marks : List Bool) : ℕ → Type 0 where
  First : (function : ℕ) → IsMarked marks function → Reached l place marks function
  Follow : (caller pc callee : ℕ) → Reached l place marks caller → InBody l caller pc → IsSuchCall l place pc callee → Reached l place marks callee

-- how many functions have no mark
abbrev pub unmarked : List Bool → ℕ
unmarked [] = 0
unmarked (true ∷ marks) = unmarked marks
unmarked (false ∷ marks) = suc (unmarked marks)

-- an access outside all sections stands at the pc
pub record IsOutsideAccess (code : List Instr) (pc : ℕ) : Type 0 where
  pub instruction : Instr
  pub stands : slice_get code pc ≡ Some instruction
  pub access : IsTrue (is_access instruction)
  pub outside : open_at code pc ≡ []

-- it is the first of those from a pc up to another
pub record IsFirstOutsideAccess (code : List Instr) (from end pc : ℕ) : Type 0 where
  pub low : from ≤ pc
  pub high : pc < end
  pub access : IsOutsideAccess code pc
  pub first : (other : ℕ) → from ≤ other → other < pc → ¬ IsOutsideAccess code other
