use Rattle.asl_backward_flow.specs.Needed.{region_of}
use Rattle.asl_explain.specs.Analysed.{read}
use Rattle.asl_explain.proofs.Walking.{stays_on}
use Rattle.asl_explain.proofs.walk.is_reached_past.Goals as goal

pub returns-then-branch : goal.returns-then-branch
returns-then-branch c = λ t.
    stays_on (read c.args.analysis.now) (region_of c.args.span.region) c.args.lock.now c.args.from c.args.known c.args.to c.requires.known (c.in_ok-is_reached.ensures c.if-branch.true)
