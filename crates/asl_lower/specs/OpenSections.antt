-- Sections that are open, bare and inner functions, and where an instruction continues (docs/SOURCE.md, "Templates"
-- and "Regions"). The type `Region` stands in specs/Regions.
use Rattle.std.specs.Prelude.{◌≡◌, ◌≢◌, ℕ, suc, zero, ◌+◌, ◌-◌, ◌<◌, ◌≤◌, ◌⊎◌, Bool, true, false, ◌||◌, ◌==◌, nat_lt, if◌then◌else◌, IsTrue, List, [], ◌∷◌, Option, Some, option_map, take, slice_get, sum_by, count_by}
use Rattle.asl_code.specs.declared.image.Function as entry
use Rattle.asl_code.specs.declared.instr.Instr.{Instr}
use Rattle.asl_code.specs.declared.instr.Instr.TheVariants as instr
use Rattle.asl_lower.specs.declared.section.Section.{Section}
use Rattle.asl_lower.specs.Lowered.{Lowered}

-- the open sections without the innermost
abbrev pub without_innermost : List ℕ → List ℕ
without_innermost [] = []
without_innermost (s ∷ opened) = opened

-- the sections that are open after an instruction: an `acq` opens one, a `rel` closes the innermost
abbrev pub open_behind : Option Instr → List ℕ → List ℕ
open_behind (Some (instr.Acquire s)) opened = s ∷ opened
open_behind (Some instr.Release) opened = without_innermost opened
open_behind i opened = opened

-- the sections that are open before the instruction at a pc, the innermost first
abbrev pub open_at : List Instr → ℕ → List ℕ
open_at code zero = []
open_at code (suc pc) = open_behind (slice_get code pc) (open_at code pc)

-- the number is one of these
abbrev pub is_among : List ℕ → ℕ → Bool
is_among [] n = false
is_among (m ∷ ms) n = (m == n) || is_among ms n

-- the instruction makes an object
abbrev pub is_new : Instr → Bool
is_new (instr.New to cells site) = true
is_new i = false

-- the instruction enters a section
abbrev pub is_acquire : Instr → Bool
is_acquire (instr.Acquire s) = true
is_acquire i = false

-- how many `new` stand before the pc
abbrev pub sites_before : List Instr → ℕ → ℕ
sites_before code pc = count_by is_new (take pc code)

-- how many `acq` stand before the pc
abbrev pub sections_before : List Instr → ℕ → ℕ
sections_before code pc = count_by is_acquire (take pc code)

-- the section is open before the instruction at the pc: after its `acq`, up to and with its `rel`
pub record IsOpenAt (s : Section) (pc : ℕ) : Type 0 where
  pub behind : s.acquire < pc
  pub within : pc ≤ s.release

-- the same of the section of this number
abbrev pub InSection : Lowered → ℕ → ℕ → Type 0
InSection l number pc = (s : Section) × (slice_get l.sections number ≡ Some s) × IsOpenAt s pc

-- where the body of a function begins
abbrev pub start_of : List entry.Function → ℕ → ℕ
start_of fs number = sum_by (λ (f : entry.Function). f.len) (take number fs)

-- the number of the function in whose body the pc is, where the bodies lie one after the other
abbrev pub owner_of : List entry.Function → ℕ → ℕ
owner_of [] pc = 0
owner_of (f ∷ fs) pc = if nat_lt pc f.len then 0 else suc (owner_of fs (pc - f.len))

-- the pc is in the body of the function of this number
pub record InBody (l : Lowered) (number pc : ℕ) : Type 0 where
  pub function : entry.Function
  pub in_table : slice_get l.functions number ≡ Some function
  pub start : start_of l.functions number ≤ pc
  pub before_end : pc < start_of l.functions number + function.len

-- the section of this number: its `acq` and its `rel` stand in the body of its function, and after the `acq` it is
-- open until the `rel`, around all that is entered in it
pub record IsSection (l : Lowered) (number : ℕ) : Type 0 where
  pub section : Section
  pub in_table : slice_get l.sections number ≡ Some section
  pub enters : slice_get l.code section.acquire ≡ Some (instr.Acquire number)
  pub leaves : slice_get l.code section.release ≡ Some instr.Release
  pub before : section.acquire < section.release
  pub first_inside : InBody l section.function section.acquire
  pub last_inside : InBody l section.function section.release
  pub around : open_at l.code section.release ≡ number ∷ open_at l.code section.acquire

-- where the `acq` of the section of this number stands, and where its `rel`
abbrev pub acquire_of : Lowered → ℕ → Option ℕ
acquire_of l number = option_map (λ (s : Section). s.acquire) (slice_get l.sections number)

-- where the `rel` of the section of this number stands
abbrev pub release_of : Lowered → ℕ → Option ℕ
release_of l number = option_map (λ (s : Section). s.release) (slice_get l.sections number)

-- the register that an instruction returns, if it does
abbrev pub returned_by : Option Instr → ℕ
returned_by (Some (instr.Return from)) = from
returned_by i = 0

-- the register that the function returns: that of the last instruction of its body
abbrev pub returned : Lowered → ℕ → ℕ
returned l number = returned_by (slice_get l.code (start_of l.functions (suc number) - 1))

-- where control may continue in the same body, from an instruction at a pc
abbrev pub FlowsTo : Instr → ℕ → ℕ → Type 0
FlowsTo (instr.Jump target) pc to = to ≡ target
FlowsTo (instr.JumpIfZero test target) pc to = (to ≡ target) ⊎ (to ≡ suc pc)
FlowsTo (instr.Return from) pc to = ⊥
FlowsTo i pc to = to ≡ suc pc

-- these pcs as a list, the target of a branch first; a branch to the next pc has it twice
abbrev pub successors : Instr → ℕ → List ℕ
successors (instr.Jump target) pc = target ∷ []
successors (instr.JumpIfZero test target) pc = target ∷ suc pc ∷ []
successors (instr.Return from) pc = []
successors i pc = suc pc ∷ []

-- the instruction at the pc calls the function
abbrev pub CallsAt : Lowered → ℕ → ℕ → Type 0
CallsAt l pc callee = (to : ℕ) × (first : ℕ) × (slice_get l.code pc ≡ Some (instr.Call to first callee))

-- `main`, and each function that a bare function calls outside a section
pub data IsBare (l : Lowered) : ℕ → Type 0 where
  Main : IsBare l l.main
  CalledOutside : (caller pc callee : ℕ) → IsBare l caller → InBody l caller pc → CallsAt l pc callee → open_at l.code pc ≡ [] → IsBare l callee

-- each function that is called inside a section or by an inner function
pub data IsInner (l : Lowered) : ℕ → Type 0 where
  CalledInside : (pc callee : ℕ) → CallsAt l pc callee → open_at l.code pc ≢ [] → IsInner l callee
  CalledByInner : (caller pc callee : ℕ) → IsInner l caller → InBody l caller pc → CallsAt l pc callee → IsInner l callee

-- the instruction reads or writes a cell
abbrev pub is_access : Instr → Bool
is_access (instr.Load to address) = true
is_access (instr.Store address from) = true
is_access i = false

-- a bare function has an access outside its sections there
pub record IsBareAccess (l : Lowered) (function pc : ℕ) : Type 0 where
  pub bare : IsBare l function
  pub inside : InBody l function pc
  pub instruction : Instr
  pub stands : slice_get l.code pc ≡ Some instruction
  pub access : IsTrue (is_access instruction)
  pub outside : open_at l.code pc ≡ []

-- the access of a bare function outside its sections that stands lowest
pub record IsFirstBareAccess (l : Lowered) (function pc : ℕ) : Type 0 where
  pub access : IsBareAccess l function pc
  pub first : (other at : ℕ) → IsBareAccess l other at → pc ≤ at
