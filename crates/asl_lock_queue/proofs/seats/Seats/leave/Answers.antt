use Rattle.std.proofs.Common.{rules, map, slice_set, ap, ◌∙◌}
use Rattle.std.proofs.lemmas.List.{map-set}
use Rattle.std.proofs.lemmas.Fn.{filter_same}
use Rattle.asl_lock_queue.proofs.seats.Seats.leave.Goals as goal

pub returns-clause-held : goal.returns-clause-held
returns-clause-held c =
    map-set (λ v. v.items) c.args.self.now.held.items c.args.thread c.clear.new.self
    ∙ ap (slice_set (map (λ v. v.items) c.args.self.now.held.items) c.args.thread) c.clear.ensures.items

pub returns-clause-wanted : goal.returns-clause-wanted
returns-clause-wanted c =
    map-set (λ v. v.items) c.args.self.now.wanted.items c.args.thread c.clear-2.new.self
    ∙ ap (slice_set (map (λ v. v.items) c.args.self.now.wanted.items) c.args.thread) c.clear-2.ensures.items

pub returns-clause-line : goal.returns-clause-line
returns-clause-line c = filter_same _ _ _ (λ x b g k. search rules) _ _ c.retain.ensures.filtered
