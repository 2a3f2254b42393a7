use Rattle.std.proofs.Common.{refl, subst, arith}
use Rattle.asl_backward_flow.specs.Follows.{read, Overflows}
use Rattle.asl_backward_flow.proofs.Points.{stands_at}
use Rattle.asl_backward_flow.proofs.Tellings.{over_there, over_many}
use Rattle.asl_backward_flow.proofs.solve.named.Goals as goal

pub bounds-analysis-from : goal.bounds-analysis-from
bounds-analysis-from c =
    let over = subst (Overflows (read c.args.analysis.now) c.requires.0) c.in-Many.is c.requires.1 in
    let there = over_there (read c.args.analysis.now) c.requires.0 c.in-Many.part over in
    let same = c.from.ensures in omega (arith, there, same)

pub returns-in-Many : goal.returns-in-Many
returns-in-Many c =
    let over = subst (Overflows (read c.args.analysis.now) c.requires.0) c.in-Many.is c.requires.1 in
    let there = over_there (read c.args.analysis.now) c.requires.0 c.in-Many.part over in
    over_many (read c.args.analysis.now) c.requires.0 c.in-Many.part over _ (stands_at c.args.analysis.now.spans.now c.args.analysis.now.spans.now c.from.result c.in-Many.part _ refl c.from.ensures there)
