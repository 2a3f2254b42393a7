use Rattle.std.proofs.lemmas.Result.{on_ok_weaker}
use Rattle.asl_parallel_c.proofs.Parts.{three_parts}
use Rattle.asl_parallel_c.proofs.call.put_enter.Goals as goal

pub returns-clause-written : goal.returns-clause-written
returns-clause-written g c =
    on_ok_weaker c.append.result
    (λ w. three_parts c.args.text.now.items c.fill.new.text.items c.repeat.new.text.items c.append.new.text.items _ _ _ (rw c.from.ensures at c.in_ok-fill.ensures.filled) (rw c.from-2.ensures at c.in_ok-repeat.ensures.repeated) w)
    c.append.ensures.appended
