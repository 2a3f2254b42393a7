use Rattle.std.proofs.lemmas.Result.{on_ok_weaker}
use Rattle.asl_assembler.proofs.Prints.{expr_written}
use Rattle.asl_assembler.proofs.lock_lines.put_expr.Goals as goal

pub returns : goal.returns
returns c =
    on_ok_weaker c.add_to.result
    (λ w. expr_written c.args.text.now.items c.extend_from_slice.new.self.items c.put_base.new.text.items c.put_ops.new.text.items c.add_to.new.text.items c.args.expr.now c.args.effect
    c.in_ok-extend_from_slice.ensures.items c.in_ok-put_base.ensures (rw c.as_slice.ensures.items at c.in_ok-put_ops.ensures) (rw c.as_slice.ensures.items at c.as_slice.ensures.bound) (rw c.effect_end-line.ensures.written at w))
    c.add_to.ensures
