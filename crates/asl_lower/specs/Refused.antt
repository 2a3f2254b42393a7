-- Which programs are not lowered, and why (docs/SOURCE.md, "Templates").
use Rattle.std.specs.Prelude.{◌≡◌, ℕ, suc, ◌<◌, ◌≤◌, List, [], ◌∷◌, Option, Some, None, if◌then◌else◌, nat_lt}
use Rattle.asl_syntax.specs.Tree.{Function, Item, functions_of}
use Rattle.asl_lower.specs.declared.fault.LowerFault.{LowerFault}
use Rattle.asl_lower.specs.declared.fault.LowerFault.TheVariants.{Registers, CodeSize, AccessOutsideSection, OutOfMemory}
use Rattle.asl_lower.specs.Names.{registers_of}
use Rattle.asl_lower.specs.Lowered.{Lowered, IsLowering, end_of}
use Rattle.asl_lower.specs.OpenSections.{IsBareAccess, IsFirstBareAccess}

-- the first function with more than 64 registers, where functions are numbered from this number on
abbrev pub first_crowded : ℕ → List Function → Option ℕ
first_crowded number [] = None
first_crowded number (f ∷ fs) = if nat_lt 64 (registers_of f) then Some number else first_crowded (suc number) fs

-- no function has more than 64 registers, and the code has at most 65,535 instructions
pub record HasRoom (is : List Item) : Type 0 where
  pub few_registers : first_crowded 0 (functions_of is) ≡ None
  pub few_instructions : (end_of is).pc ≤ 65535

-- no bare function of the program has an access outside its sections
abbrev pub HasAccessesInside : List Item → Type 0
HasAccessesInside is = (l : Lowered) → IsLowering is l → (function pc : ℕ) → ¬ IsBareAccess l function pc

-- the program has this fault, and none that is listed before it. All is judged in the tree, without memory, before any
-- code is made, so running out of memory hides no other fault
abbrev pub IsRefusedLowering : List Item → LowerFault → Type 0
IsRefusedLowering is (Registers number) = first_crowded 0 (functions_of is) ≡ Some number
IsRefusedLowering is CodeSize = (first_crowded 0 (functions_of is) ≡ None) × (65535 < (end_of is).pc)
IsRefusedLowering is (AccessOutsideSection function pc) =
    HasRoom is × ((l : Lowered) × IsLowering is l × IsFirstBareAccess l function pc)
IsRefusedLowering is OutOfMemory = HasRoom is × HasAccessesInside is
