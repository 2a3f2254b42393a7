use Rattle.std.proofs.lemmas.Result.{on_ok_weaker}
use Rattle.asl_parallel_c.proofs.Parts.{three_parts}
use Rattle.asl_parallel_c.proofs.head.put_local.Goals as goal

pub returns-clause-written : goal.returns-clause-written
returns-clause-written g c =
    on_ok_weaker c.append.result
    (λ w. three_parts c.args.text.now.items c.fill.new.text.items c.put_local_comment.new.text.items c.append.new.text.items _ _ _ c.in_ok-fill.ensures.filled c.in_ok-put_local_comment.ensures.written w)
    c.append.ensures.appended
