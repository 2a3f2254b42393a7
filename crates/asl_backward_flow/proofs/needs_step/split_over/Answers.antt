use Rattle.std.proofs.lemmas.Result.{IfOk-weaker}
use Rattle.asl_backward_flow.specs.Found.{table}
use Rattle.asl_backward_flow.specs.Follows.{read}
use Rattle.asl_backward_flow.proofs.Splitting.{ok_both, splits_some, splits_none}
use Rattle.asl_backward_flow.proofs.needs_step.split_over.Goals as goal

pub returns-clause-none : goal.returns-clause-none
returns-clause-none c =
    IfOk-weaker c.split.result _ _
    (λ some h e. splits_none (read c.args.analysis.now) (table c.args.found.now) c.args.part c.args.pc c.args.scratch.now.set c.touched_at.new.touched c.in_ok-touched_at.ensures.touched (h e))
    c.split.ensures.none

pub returns-clause-some : goal.returns-clause-some
returns-clause-some c =
    ok_both c.split.result _ _ _
    (λ some changed stay e. splits_some (read c.args.analysis.now) (table c.args.found.now) c.args.part c.args.pc c.args.scratch.now.set c.touched_at.new.touched c.in_ok-touched_at.ensures.touched c.split.new.stay c.split.new.changed.items (stay e) (changed e))
    c.split.ensures.changed c.split.ensures.stay
