use Rattle.std.proofs.Common.{sym, subst}
use Rattle.asl_backward_flow.specs.Follows.{read}
use Rattle.asl_backward_flow.specs.Parts.{TellsAll}
use Rattle.asl_backward_flow.proofs.Tellings.{tells_all, at_their_numbers}
use Rattle.asl_backward_flow.proofs.solve.flow.Goals as goal

pub flow_of-requires : goal.flow_of-requires
flow_of-requires c = at_their_numbers (read c.args.analysis.now) c.requires.whole c.in-Ok.found.parts.items c.in-Ok.found.list c.in-Ok.ensures.ok

pub returns-in-Ok-clause-ok : goal.returns-in-Ok-clause-ok
returns-in-Ok-clause-ok c =
    subst (TellsAll (read c.args.analysis.now)) (sym c.flow_of.ensures) (tells_all (read c.args.analysis.now) c.requires.whole c.in-Ok.found.parts.items c.in-Ok.found.list c.in-Ok.ensures.ok)
