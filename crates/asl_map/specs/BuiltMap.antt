-- Machinery of the proofs, not of the promise: a map as src/whole.rt makes it. What contracts promise is specs/Mapped.
use Rattle.std.specs.Prelude.{◌≡◌, ℕ, ◌↔◌, true, List, map, Some, slice_get}
use Rattle.asl_grammar.specs.Lex.{tokens_of}
use Rattle.asl_syntax.specs.Tree.{Item}
use Rattle.asl_lower.specs.Lowered.{Lowered}
use Rattle.asl_points_to.specs.Classes.{Classed}
use Rattle.asl_map.specs.declared.map.Map.{Map}
use Rattle.asl_map.specs.Areas.{section_area, AreSites}
use Rattle.asl_map.specs.Reached.{IsReached}
use Rattle.asl_map.specs.Mapped.{HasNames, HasMembers}
use Rattle.asl_map.specs.Walked.{items_pieces, items_named}

-- the map has the names of the tree, which functions are reached, the classes of the members, and where all of it stands in the source
pub record IsMade (source : List ℕ) (tree : List Item) (l : Lowered) (c : Classed) (m : Map) : Type 0 where
  pub names : HasNames tree m
  pub reached : (function : ℕ) → (slice_get m.reached function ≡ Some true) ↔ IsReached l function
  pub members : HasMembers c m
  pub pieces : m.pieces.items ≡ items_pieces tree (tokens_of source)
  pub functions : m.functions.items ≡ items_named tree (tokens_of source)
  pub sections : m.sections.items ≡ map (section_area m.pieces.items) l.sections
  pub sites : AreSites l m.pieces.items m.sites.items
