use Rattle.std.proofs.Common.{◌+◌, List, take, slice_set, ap, ◌∙◌}
use Rattle.asl_lock_queue.specs.declared.ask.Ask.{Ask}
use Rattle.asl_c_requests.proofs.Inserted.{take-inserted}
use Rattle.asl_c_requests.proofs.placing.insert.Goals as goal

pub returns-clause-asks : goal.returns-clause-asks
returns-clause-asks c =
    ap (λ (l : List Ask). take (c.args.count + 1) (slice_set l c.args.place c.args.ask)) c.copy_within.ensures.after
    ∙ take-inserted c.args.asks.now c.args.place c.args.count c.args.ask c.requires.there c.requires.room
