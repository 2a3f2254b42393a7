-- What the map of a source is (docs/SOURCE.md, "The map"): the names and numbers of the source's tree, of its lowering and of its classes.
use Rattle.std.specs.Prelude.{◌≡◌, ℕ, ◌≤◌, ◌↔◌, true, List, length, map, Some, slice_get, Vec}
use Rattle.std.specs.declared.alloc.Global.{Global}
use Rattle.asl_grammar.specs.Lex.{tokens_of}
use Rattle.asl_syntax.specs.Tree.{Item, globals_of, functions_of}
use Rattle.asl_syntax.specs.Parsed.{Parses}
use Rattle.asl_syntax.specs.Fault as syntax
use Rattle.asl_syntax.specs.declared.fault.SyntaxFault.TheVariants as syntax_fault
use Rattle.asl_lower.specs.Names.{locals_of}
use Rattle.asl_lower.specs.Place.{origin}
use Rattle.asl_lower.specs.Lowered.{Lowered, IsLowering}
use Rattle.asl_lower.specs.OpenSections.{IsBareAccess}
use Rattle.asl_lower.specs.Refused as lower
use Rattle.asl_lower.specs.declared.fault.LowerFault.TheVariants as lower_fault
use Rattle.asl_points_to.specs.Classes.{Classed, AreClasses}
use Rattle.asl_points_to.specs.Refused as points
use Rattle.asl_points_to.specs.declared.fault.ClassesFault.TheVariants as classes_fault
use Rattle.asl_map.specs.declared.fault.MapFault.{MapFault}
use Rattle.asl_map.specs.declared.fault.MapFault.TheVariants as fault
use Rattle.asl_map.specs.declared.map.Map.{Map}
use Rattle.asl_map.specs.Areas.{section_area, AreSites}
use Rattle.asl_map.specs.Placed.{ArePlaced}
use Rattle.asl_map.specs.Reached.{IsReached}
use Rattle.asl_map.specs.Text.{map_text}

-- the locals of each function in the order of their registers, and the globals
pub record HasNames (tree : List Item) (m : Map) : Type 0 where
  pub registers : map (λ (r : Vec (List ℕ) Global). r.items) m.registers.items ≡ map locals_of (functions_of tree)
  pub globals : m.globals.items ≡ globals_of tree

-- the classes of the globals and of the sites
pub record HasMembers (c : Classed) (m : Map) : Type 0 where
  pub classes : m.classes ≡ c.count
  pub globals : m.global_classes.items ≡ c.globals
  pub sites : m.site_classes.items ≡ c.sites

-- all accesses are in sections, but for those of functions that sections alone call
abbrev pub HasNoBareAccess : Lowered → Type 0
HasNoBareAccess l = (function pc : ℕ) → ¬ IsBareAccess l function pc

-- the map of the source, whose code keeps the limits, whose accesses are in sections, and which has at most 1,024 classes
pub record IsMapped (source : List ℕ) (m : Map) : Type 0 where
  pub tree : List Item
  pub parses : Parses source tree
  pub lowered : Lowered
  pub lowering : IsLowering tree lowered
  pub room : lower.HasRoom tree
  pub inside : HasNoBareAccess lowered
  pub classed : Classed
  pub classes : AreClasses lowered classed
  pub few : classed.count ≤ 1024
  pub names : HasNames tree m
  pub reached : (function : ℕ) → (slice_get m.reached function ≡ Some true) ↔ IsReached lowered function
  pub members : HasMembers classed m
  pub pieces : length m.pieces.items ≡ length lowered.code
  pub functions : length m.functions.items ≡ length lowered.functions
  pub placed : ArePlaced m 0 parses.spelled.spelled.written (tokens_of source) origin
  pub sections : m.sections.items ≡ map (section_area m.pieces.items) lowered.sections
  pub sites : AreSites lowered m.pieces.items m.sites.items

-- the text of the map of the source
pub record IsMapText (source text : List ℕ) : Type 0 where
  pub is : Map
  pub mapped : IsMapped source is
  pub spelled : text ≡ map_text is

-- the tree has this lowering, which keeps the limits, and its accesses are in sections
abbrev pub IsLowered : List Item → Lowered → Type 0
IsLowered tree l = IsLowering tree l × lower.HasRoom tree × HasNoBareAccess l

-- why a source has no map: the first fault of its text, its lowering and its classes; where memory is wanting for the map itself, the
-- source has none
abbrev pub IsRefusedMapping : List ℕ → MapFault → Type 0
IsRefusedMapping source (fault.Source cause) = syntax.IsFault source cause
IsRefusedMapping source (fault.Lower cause) = (tree : List Item) × Parses source tree × lower.IsRefusedLowering tree cause
IsRefusedMapping source (fault.Classes cause) =
    (tree : List Item) × (l : Lowered) × Parses source tree × IsLowered tree l × points.IsRefusedClasses l cause
IsRefusedMapping source fault.OutOfMemory =
    (tree : List Item) × (l : Lowered) × (c : Classed) × Parses source tree × IsLowered tree l × AreClasses l c × (c.count ≤ 1024)

-- memory was all that was wanting
abbrev pub IsOutOfMemory : MapFault → Type 0
IsOutOfMemory (fault.Source cause) = cause ≡ syntax_fault.OutOfMemory
IsOutOfMemory (fault.Lower cause) = cause ≡ lower_fault.OutOfMemory
IsOutOfMemory (fault.Classes cause) = cause ≡ classes_fault.OutOfMemory
IsOutOfMemory fault.OutOfMemory = Unit {0}
