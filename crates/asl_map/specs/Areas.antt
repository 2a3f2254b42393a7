-- Where sections and sites stand, by the pieces of instructions (docs/SOURCE.md, "The map").
use Rattle.std.specs.Prelude.{◌≡◌, ℕ, List, length, Some, slice_get}
use Rattle.std.specs.Option.{option_map_or}
use Rattle.asl_code.specs.declared.instr.Instr.TheVariants as instr
use Rattle.asl_lower.specs.declared.section.Section.{Section}
use Rattle.asl_lower.specs.Lowered.{Lowered}
use Rattle.asl_lower.specs.OpenSections.{owner_of}
use Rattle.asl_map.specs.declared.text_piece.Area.{Area}
use Rattle.asl_map.specs.declared.text_piece.Piece.{Piece}

-- the places from which on and after which the piece of an instruction stands
abbrev pub from_at : List Piece → ℕ → ℕ
from_at pieces pc = option_map_or (λ (x : Piece). x.from) (slice_get pieces pc) 0

-- the place after the piece of the instruction at the pc, and 0 where there is none
abbrev pub to_at : List Piece → ℕ → ℕ
to_at pieces pc = option_map_or (λ (x : Piece). x.to) (slice_get pieces pc) 0

-- from the `atomic` of a section to after its last brace
abbrev pub section_area : List Piece → Section → Area
section_area pieces s = record { function = s.function; from = from_at pieces s.acquire; to = to_at pieces s.release }

-- the piece of an instruction, with the function in whose body it is
abbrev pub area_at : Lowered → List Piece → ℕ → Area
area_at l pieces pc = record { function = owner_of l.functions pc; from = from_at pieces pc; to = to_at pieces pc }

-- each site stands where its `new` stands
pub record AreSites (l : Lowered) (pieces : List Piece) (sites : List Area) : Type 0 where
  pub count : length sites ≡ l.sites
  pub stand : (pc to cells site : ℕ) → slice_get l.code pc ≡ Some (instr.New to cells site) → slice_get sites site ≡ Some (area_at l pieces pc)
