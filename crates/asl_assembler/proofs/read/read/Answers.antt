use Rattle.std.proofs.Common.{sym, ◌∙◌}
use Rattle.asl_assembler.proofs.Overs.{over_step}
use Rattle.asl_assembler.proofs.read.read.Goals as goal

pub returns-then-is_over : goal.returns-then-is_over
returns-then-is_over c = λ image e.
    over_step c.loop-rest.number c.loop-rest.place c.in-Some.next c.loop-rest.image c.take_bytes.new.image c.split_line.result.0.now c.loop-rest.rest.now c.split_line.result.1.now c.args.text.now
    c.in_ok-next.field-0 image c.loop-rest.invariant.same c.split_line.ensures.lines c.in_ok-next.ensures c.in-Some.is (sym c.is_over.ensures ∙ c.if-is_over.true) e
