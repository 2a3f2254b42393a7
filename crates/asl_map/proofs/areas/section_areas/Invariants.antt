-- what is listed and what is left are all
use Rattle.std.proofs.Common.{◌≡◌, ◌++◌, drop, map}
use Rattle.asl_map.specs.Areas.{section_area}
use Rattle.asl_map.proofs.areas.section_areas.Given as goal

abbrev pub invariant-loop-section : goal.invariant-loop-section
invariant-loop-section l =
    l.areas.items ++ map (section_area l.pieces) (drop l.section-index l.lowering.sections) ≡ map (section_area l.pieces) l.lowering.sections
