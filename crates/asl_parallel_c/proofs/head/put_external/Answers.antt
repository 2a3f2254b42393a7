use Rattle.std.proofs.lemmas.Result.{on_ok_weaker}
use Rattle.asl_parallel_c.proofs.Parts.{three_parts}
use Rattle.asl_parallel_c.proofs.head.put_external.Goals as goal

pub returns-clause-written : goal.returns-clause-written
returns-clause-written g c =
    on_ok_weaker c.append-3.result
    (λ w. three_parts c.args.text.now.items c.append.new.text.items c.append-2.new.text.items c.append-3.new.text.items _ _ _ c.in_ok-append.ensures.appended c.in_ok-append-2.ensures.appended w)
    c.append-3.ensures.appended
