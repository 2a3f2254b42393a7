use Rattle.std.proofs.lemmas.Result.{on_ok_weaker}
use Rattle.asl_parallel_c.proofs.Parts.{six_parts}
use Rattle.asl_parallel_c.proofs.head.put_head.Goals as goal

pub returns-clause-written : goal.returns-clause-written
returns-clause-written g c =
    on_ok_weaker c.put_registers.result
    (λ w. six_parts c.args.text.now.items c.put_declared.new.text.items c.put_params.new.text.items c.append.new.text.items c.put_comment.new.text.items c.append-2.new.text.items c.put_registers.new.text.items _ _ _ _ _ _ c.in_ok-put_declared.ensures.written c.in_ok-put_params.ensures.written c.in_ok-append.ensures.appended c.in_ok-put_comment.ensures.written c.in_ok-append-2.ensures.appended w)
    c.put_registers.ensures.written
