use Rattle.std.proofs.Common.{sym, ◌∙◌, arith}
use Rattle.asl_explain.proofs.Blanks.{blank_more}
use Rattle.asl_explain.proofs.gaps.find_gaps.Goals as goal

pub loop-to-preserved-then-is_blank : goal.loop-to-preserved-then-is_blank
loop-to-preserved-then-is_blank c =
    let was = c.loop-to.invariant in
    let order = was.order in
    record {
      order = omega (arith, order);
      blank = blank_more c.args.source.now c.loop-to.from c.loop-to.to was.order c.loop-to-test.true (sym c.is_blank.ensures ∙ c.if-is_blank.true) was.blank;
      gaps = was.gaps;
    }
