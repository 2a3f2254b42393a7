use Rattle.std.proofs.Common.{rules, refl, arith}
use Rattle.asl_backward_flow.specs.Found.{table}
use Rattle.asl_backward_flow.specs.Follows.{read}
use Rattle.asl_backward_flow.proofs.Points.{stands_at}
use Rattle.asl_backward_flow.proofs.Each.{points_more, points_stopped, points_end, no_span}
use Rattle.asl_backward_flow.proofs.access_needs.add_region_seeds.Goals as goal

pub loop-pc-preserved : goal.loop-pc-preserved
loop-pc-preserved c =
    let there = stands_at c.args.analysis.now.spans.now c.args.analysis.now.spans.now c.from.result c.args.part no_span refl c.from.ensures c.requires.there in
    let lt = c.loop-pc-test.true in let end = c.loop-pc.auto.pc-end in let first = c.loop-pc.auto.pc in
    points_more (read c.args.analysis.now) _ (table c.loop-pc.found) _ c.args.part c.loop-pc.pc (_, there, omega (arith, first), omega (arith, lt, end)) c.loop-pc.invariant c.in_ok-add_seeds_at.ensures.ok

pub returns-in_err-add_seeds_at-clause-err : goal.returns-in_err-add_seeds_at-clause-err
returns-in_err-add_seeds_at-clause-err c =
    let there = stands_at c.args.analysis.now.spans.now c.args.analysis.now.spans.now c.from.result c.args.part no_span refl c.from.ensures c.requires.there in
    let lt = c.loop-pc-test.true in let end = c.loop-pc.auto.pc-end in let first = c.loop-pc.auto.pc in
    let stopped = points_stopped (read c.args.analysis.now) (table c.args.found.now) (table c.loop-pc.found) (table c.add_seeds_at.new.found) c.args.part c.loop-pc.pc _ (_, there, omega (arith, first), omega (arith, lt, end)) c.loop-pc.invariant c.in_err-add_seeds_at.ensures.err in
    search (rules, stopped)

pub returns-clause-ok : goal.returns-clause-ok
returns-clause-ok c =
    let there = stands_at c.args.analysis.now.spans.now c.args.analysis.now.spans.now c.from.result c.args.part no_span refl c.from.ensures c.requires.there in
    let lt = c.loop-pc-test.false in let end = c.loop-pc.auto.pc-end in
    points_end (read c.args.analysis.now) _ _ c.args.part c.loop-pc.pc _ there (omega (arith, lt, end)) c.loop-pc.invariant
