use Rattle.std.proofs.lemmas.Result.{on_ok_weaker}
use Rattle.asl_parallel_c.proofs.Parts.{two_parts}
use Rattle.asl_parallel_c.proofs.program_text.put_main.Goals as goal

pub returns-clause-written : goal.returns-clause-written
returns-clause-written g c =
    on_ok_weaker c.append-2.result
    (λ w. two_parts c.args.text.now.items c.append.new.text.items c.append-2.new.text.items _ _ c.in_ok-append.ensures.appended w)
    c.append-2.ensures.appended
