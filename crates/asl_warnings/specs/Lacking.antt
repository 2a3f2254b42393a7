-- What the text of a program may lack (docs/ANALYSIS.md, "What the text may lack"): which functions `main` does not reach, and which accesses
-- no class has.
use Rattle.std.specs.Prelude.{ℕ, Bool, false, ◌&&◌, if◌then◌else◌, nat_lt, length, Option, None, Some, is_none, slice_get, unwrap_or}
use Rattle.asl_code.specs.declared.instr.Instr.{Instr}
use Rattle.asl_code.specs.declared.instr.Instr.TheVariants as instr
use Rattle.asl_lower.specs.Lowered.{Lowered}
use Rattle.asl_lower.specs.OpenSections.{owner_of}
use Rattle.asl_points_to.specs.Classes.{Classed, to}
use Rattle.asl_map.specs.declared.map.Map.{Map}

-- whether `main` reaches the function, by the map's marks
abbrev pub is_reached : Map → ℕ → Bool
is_reached m function = unwrap_or (slice_get m.reached function) false

-- the function of an instruction
abbrev pub owner_at : Lowered → ℕ → ℕ
owner_at l pc = if nat_lt pc (length l.code) then owner_of l.functions pc else 0

-- the register by which an instruction loads or stores
abbrev pub address_of : Instr → Option ℕ
address_of (instr.Load to address) = Some address
address_of (instr.Store address from) = Some address
address_of i = None

-- the register of the function points to no class
abbrev pub points_nowhere : Classed → ℕ → Option ℕ → Bool
points_nowhere c function None = false
points_nowhere c function (Some register) = is_none (to c function register)

-- a load or a store by a register that points to no class, in a function that `main` reaches
abbrev pub has_no_class : Map → Lowered → Classed → ℕ → Instr → Bool
has_no_class m l c pc i = points_nowhere c (owner_at l pc) (address_of i) && is_reached m (owner_at l pc)
