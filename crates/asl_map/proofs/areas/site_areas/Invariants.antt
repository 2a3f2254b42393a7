-- the sites so far
use Rattle.asl_map.proofs.Sites.{Found}
use Rattle.asl_map.proofs.areas.site_areas.Given as goal

abbrev pub invariant-loop-pc : goal.invariant-loop-pc
invariant-loop-pc l = Found l.lowering l.pieces l.pc l.areas.items
