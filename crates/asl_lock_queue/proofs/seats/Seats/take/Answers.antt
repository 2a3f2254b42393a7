use Rattle.std.proofs.Common.{map, slice_set, ap, ◌∙◌}
use Rattle.std.proofs.lemmas.List.{map-set}
use Rattle.asl_lock_queue.proofs.seats.Seats.take.Goals as goal

pub returns-clause-held : goal.returns-clause-held
returns-clause-held c =
    map-set (λ v. v.items) c.args.self.now.held.items c.args.thread c.swap.new.x
    ∙ ap (λ v. slice_set (map (λ v. v.items) c.args.self.now.held.items) c.args.thread v.items) c.swap.ensures.x_after
