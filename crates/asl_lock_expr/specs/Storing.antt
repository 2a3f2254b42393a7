-- Machinery of the proofs, not of the promise: the stores and calls of a program as rows of numbers, and
-- which functions they lead to (src/stores.rt). What contracts cite is `MayStore` of specs/ClassOf.
use Rattle.std.specs.Prelude.{◌≡◌, ◌<◌, ◌≤◌, ◌+◌, ◌⊎◌, ◌↔◌, ℕ, suc, Bool, true, false, List, [], ◌∷◌, length, Option, None, Some, slice_get, unwrap_or}
use Rattle.asl_code.specs.declared.instr.Instr.{Instr}
use Rattle.asl_code.specs.declared.instr.Instr.TheVariants as instr
use Rattle.asl_lower.specs.Lowered.{Lowered}
use Rattle.asl_lower.specs.OpenSections.{owner_of}
use Rattle.asl_points_to.specs.Classes.{Classed, to}

-- one of a list of numbers
abbrev pub IsIn : List ℕ → ℕ → Type 0
IsIn [] n = ⊥
IsIn (x ∷ xs) n = (x ≡ n) ⊎ IsIn xs n

-- the row at a place, which is empty past the last
abbrev pub row : List (List ℕ) → ℕ → List ℕ
row rows at = unwrap_or (slice_get rows at) []

-- the class to which an instruction of a function stores, and the function that an instruction calls
abbrev pub stored_class : Classed → ℕ → Instr → Option ℕ
stored_class c function (instr.Store address from) = to c function address
stored_class c function i = None

-- the function that an instruction calls, if it is a call
abbrev pub called : Instr → Option ℕ
called (instr.Call to first callee) = Some callee
called i = None

-- one of the first `n` instructions, in the body of this function, has this number for an entry
pub record IsListed (entry : ℕ → Instr → Option ℕ) (l : Lowered) (n at function : ℕ) : Type 0 where
  pub pc : ℕ
  pub before : pc < n
  pub instruction : Instr
  pub owner : owner_of l.functions pc ≡ function
  pub stands : slice_get l.code pc ≡ Some instruction
  pub entered : entry function instruction ≡ Some at

-- the rows list by their entries the functions of the first `n` instructions
abbrev pub AreListed : (ℕ → Instr → Option ℕ) → Lowered → ℕ → List (List ℕ) → Type 0
AreListed entry l n rows = (at function : ℕ) → IsIn (row rows at) function ↔ IsListed entry l n at function

-- the new rows are the old ones, and have the function for the entry of the instruction, if it has one
pub record ListsOneMore (entry : ℕ → Instr → Option ℕ) (function : ℕ) (i : Instr) (old new : List (List ℕ)) : Type 0 where
  pub listed : (l : Lowered) (pc : ℕ) → owner_of l.functions pc ≡ function → slice_get l.code pc ≡ Some i → AreListed entry l pc old → AreListed entry l (pc + 1) new
  pub few : length old ≤ 65536 → length new ≤ 65536

-- the function has a mark
abbrev pub IsMarked : List Bool → ℕ → Type 0
IsMarked marks function = slice_get marks function ≡ Some true

-- how many functions have no mark
abbrev pub unmarked : List Bool → ℕ
unmarked [] = 0
unmarked (true ∷ marks) = unmarked marks
unmarked (false ∷ marks) = suc (unmarked marks)

-- the functions below the count that are listed, or call one that is reached
pub data Reaches (count : ℕ) (callers : List (List ℕ)) (listed : List ℕ) : ℕ → Type 0 where
  Listed : (function : ℕ) → function < count → IsIn listed function → Reaches count callers listed function
  Calling : (function callee : ℕ) → function < count → IsIn (row callers callee) function → Reaches count callers listed callee → Reaches count callers listed function

-- these functions have marks now, and those that had none wait
pub record MarksAll (functions : List ℕ) (old new : List Bool) (waits now : List ℕ) : Type 0 where
  pub length_same : length new ≡ length old
  pub kept : (f : ℕ) → IsMarked old f → IsMarked new f
  pub only : (f : ℕ) → IsMarked new f → IsMarked old f ⊎ (IsIn functions f × IsIn now f)
  pub all : (f : ℕ) → IsIn functions f → f < length old → IsMarked new f
  pub waits_kept : (f : ℕ) → IsIn waits f → IsIn now f
  pub waits_only : (f : ℕ) → IsIn now f → IsIn waits f ⊎ IsMarked new f
  pub measure : unmarked new + length now ≡ unmarked old + length waits

-- the lengths are above the number
abbrev pub AreOver : ℕ → List ℕ → Type 0
AreOver number lengths = (n len : ℕ) → slice_get lengths n ≡ Some len → number < len
