use Rattle.std.proofs.Common.{◌++◌, subst}
use Rattle.asl_backward_flow.specs.Found.{IsPut}
use Rattle.asl_backward_flow.proofs.Turning.{put_first, put_second}
use Rattle.asl_backward_flow.proofs.rounds.Rounds.put.Goals as goal

pub returns-then-point-self-clause-ok : goal.returns-then-point-self-clause-ok
returns-then-point-self-clause-ok c =
    subst (λ l. IsPut l (c.self.inside.round ++ c.put.new.self) c.args.point c.args.is_new) c.self.view_is
    (put_second c.self.inside.later c.put.new.self c.self.inside.round c.args.point c.args.is_new c.in_ok-put.ensures.ok)

pub returns-clause-ok : goal.returns-clause-ok
returns-clause-ok c =
    subst (λ l. IsPut l (c.put-2.new.self ++ c.self.inside.later) c.args.point c.args.is_new) c.self.view_is
    (put_first c.self.inside.round c.put-2.new.self c.self.inside.later c.args.point c.args.is_new c.in_ok-put-2.ensures.ok)
