use Rattle.asl_backward_flow.proofs.Turning.{first_taken}
use Rattle.asl_backward_flow.proofs.rounds.Rounds.take.Goals as goal

pub returns-in-Some-clause-taken : goal.returns-in-Some-clause-taken
returns-in-Some-clause-taken c =
    first_taken c.self.inside.round c.pop.new.self c.self.inside.later c.args.self.now c.self.view_is c.in-Some.point c.in-Some.ensures.taken
