use Rattle.std.proofs.Common.{rules, arith}
use Rattle.asl_backward_flow.specs.Found.{table}
use Rattle.asl_backward_flow.specs.Follows.{read}
use Rattle.asl_backward_flow.proofs.Each.{regions_more, regions_stopped, regions_end}
use Rattle.asl_backward_flow.proofs.access_needs.add_seeds.Goals as goal

pub loop-part-preserved : goal.loop-part-preserved
loop-part-preserved c =
    regions_more (read c.args.analysis.now) _ (table c.loop-part.found) _ c.loop-part.part c.loop-part.invariant c.in_ok-add_region_seeds.ensures.ok

pub returns-in_err-add_region_seeds-clause-err : goal.returns-in_err-add_region_seeds-clause-err
returns-in_err-add_region_seeds-clause-err c =
    let stopped = regions_stopped (read c.args.analysis.now) (table c.args.found.now) (table c.loop-part.found) (table c.add_region_seeds.new.found) c.loop-part.part _ c.loop-part.invariant c.in_err-add_region_seeds.ensures.err in
    search (rules, stopped)

pub returns-clause-ok : goal.returns-clause-ok
returns-clause-ok c =
    let lt = c.loop-part-test.false in let end = c.loop-part.auto.part-end in
    regions_end (read c.args.analysis.now) _ _ c.loop-part.part (omega (arith, lt, end)) c.loop-part.invariant
