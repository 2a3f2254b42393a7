use Rattle.std.proofs.lemmas.Result.{on_ok_weaker}
use Rattle.asl_parallel_c.proofs.Parts.{two_parts}
use Rattle.asl_parallel_c.proofs.head.put_registers.Goals as goal

pub returns-clause-written : goal.returns-clause-written
returns-clause-written g c =
    on_ok_weaker c.put_locals-2.result
    (λ w. two_parts c.args.text.now.items c.put_locals.new.text.items c.put_locals-2.new.text.items _ _ (rw c.from-params.ensures at c.in_ok-put_locals.ensures.written) (rw (c.saturating_sub-others.ensures, c.from-params.ensures, c.from-regs.ensures) at w))
    c.put_locals-2.ensures.written
