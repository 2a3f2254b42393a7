use Rattle.std.proofs.lemmas.Result.{on_ok_weaker}
use Rattle.asl_parallel_c.proofs.Parts.{five_parts}
use Rattle.asl_parallel_c.proofs.call.put_call.Goals as goal

pub returns-clause-written : goal.returns-clause-written
returns-clause-written g c =
    on_ok_weaker c.append-2.result
    (λ w. five_parts c.args.text.now.items c.fill.new.text.items c.put_callee.new.text.items c.append.new.text.items c.repeat.new.text.items c.append-2.new.text.items _ _ _ _ _
    (rw c.from.ensures at c.in_ok-fill.ensures.filled) c.in_ok-put_callee.ensures.written c.in_ok-append.ensures.appended
    (rw (c.from-2.ensures, c.from-3.ensures, c.params_of-params.ensures, c.functions.ensures.functions) at c.in_ok-repeat.ensures.repeated) w)
    c.append-2.ensures.appended
