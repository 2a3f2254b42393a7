use Rattle.asl_backward_flow.proofs.Grouping.{entry_parts, few_in_bodies}
use Rattle.asl_backward_flow.proofs.entry_flow.group_parts.Goals as goal

pub returns-in-Ok-clause-parts : goal.returns-in-Ok-clause-parts
returns-in-Ok-clause-parts c = entry_parts _ c.in-Ok.found.parts.items c.in-Ok.found.list c.in-Ok.ensures.ok

pub returns-in-Ok-clause-bodies : goal.returns-in-Ok-clause-bodies
returns-in-Ok-clause-bodies c = few_in_bodies _ c.in-Ok.found.parts.items c.in-Ok.found.list c.in-Ok.ensures.ok c.requires.group
