use Rattle.std.proofs.lemmas.Result.{on_ok_weaker}
use Rattle.asl_parallel_c.proofs.Parts.{four_parts}
use Rattle.asl_parallel_c.proofs.lock.put_expr.Goals as goal

pub returns-clause-written : goal.returns-clause-written
returns-clause-written g c =
    on_ok_weaker c.put_path.result
    (λ w. four_parts c.args.text.now.items c.append.new.text.items c.append-2.new.text.items c.put_base.new.text.items c.put_path.new.text.items _ _ _ _ c.in_ok-append.ensures.appended (rw c.mode_of.ensures at c.in_ok-append-2.ensures.appended) c.in_ok-put_base.ensures.written (rw c.as_slice.ensures.items at w))
    c.put_path.ensures.written
