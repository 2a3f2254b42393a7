use Rattle.std.proofs.Common.{sym}
use Rattle.asl_points_to.proofs.Rounds.{contains_at}
use Rattle.asl_points_to.proofs.settle.next_flow.Goals as goal

pub returns : goal.returns
returns c = contains_at c.args.flows.now c.in_ok-number.number c.in_ok-flow.flow (sym c.in_ok-flow.ensures)
