-- Regions: the bodies of inner functions, and the sections (docs/SOURCE.md, "Regions").
use Rattle.std.specs.Prelude.{◌≡◌, ℕ, suc, ◌<◌, false, List, [], ◌∷◌, Option, Some, None, slice_get}
use Rattle.asl_lower.specs.declared.section.Section.{Section}
use Rattle.asl_lower.specs.Lowered.{Lowered}
use Rattle.asl_lower.specs.OpenSections.{is_among, start_of, release_of, InBody, IsInner}

-- the body of an inner function, or what is inside a section
pub data Region : Type 0 where
  Body : (function : ℕ) → Region
  Inside : (section : ℕ) → Region

-- the pc is after the `acq` of the section and before its `rel`, and the section stands in the function
pub record Between (l : Lowered) (section f pc : ℕ) : Type 0 where
  pub is : Section
  pub in_table : slice_get l.sections section ≡ Some is
  pub function : is.function ≡ f
  pub behind : is.acquire < pc
  pub ahead : pc < is.release

-- the instruction of function `f` at the pc is one of the region; the `rel` of a section is its end, and none of it
abbrev pub IsIn : Lowered → Region → ℕ → ℕ → Type 0
IsIn l (Body g) f pc = (f ≡ g) × IsInner l g × InBody l g pc
IsIn l (Inside section) f pc = Between l section f pc

-- the region ends at the pc: at the `ret` of the body, at the `rel` of the section
abbrev pub IsEnd : Lowered → Region → ℕ → Type 0
IsEnd l (Body g) pc = suc pc ≡ start_of l.functions (suc g)
IsEnd l (Inside section) pc = release_of l section ≡ Some pc

-- the outermost of the open sections, if one is open
abbrev pub outermost : List ℕ → Option ℕ
outermost [] = None
outermost (s ∷ []) = Some s
outermost (s ∷ t ∷ around) = outermost (t ∷ around)

-- no number stands here twice
abbrev pub AreDistinct : List ℕ → Type 0
AreDistinct [] = Unit {0}
AreDistinct (s ∷ around) = (is_among around s ≡ false) × AreDistinct around
