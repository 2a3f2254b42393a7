use Rattle.std.proofs.lemmas.Result.{on_ok_weaker}
use Rattle.asl_parallel_c.proofs.Parts.{two_parts}
use Rattle.asl_parallel_c.proofs.functions.put_line.Goals as goal

pub returns-clause-written : goal.returns-clause-written
returns-clause-written g c =
    on_ok_weaker c.put_instr.result
    (λ w. two_parts c.args.text.now.items c.fill.new.text.items c.put_instr.new.text.items _ _ c.in_ok-fill.ensures.filled w)
    c.put_instr.ensures.written
