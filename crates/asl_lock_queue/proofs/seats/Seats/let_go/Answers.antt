use Rattle.std.proofs.Common.{[], map, slice_set, ap, sym, ◌∙◌}
use Rattle.std.proofs.lemmas.List.{map-set, get_or-map}
use Rattle.asl_lock_queue.proofs.seats.Seats.let_go.Goals as goal

pub returns-clause-held : goal.returns-clause-held
returns-clause-held c =
    map-set (λ v. v.items) c.args.self.now.held.items c.args.thread c.swap.new.x
    ∙ ap (slice_set (map (λ v. v.items) c.args.self.now.held.items) c.args.thread)
    (ap (λ v. v.items) (c.swap.ensures.x_after ∙ c.index_mut-2.ensures.value) ∙ sym (get_or-map (λ v. v.items) c.args.self.now.wanted.items c.args.thread _ [] c.requires.wanted))

pub returns-clause-wanted : goal.returns-clause-wanted
returns-clause-wanted c =
    map-set (λ v. v.items) c.args.self.now.wanted.items c.args.thread c.swap.new.y
    ∙ ap (slice_set (map (λ v. v.items) c.args.self.now.wanted.items) c.args.thread)
    (ap (λ v. v.items) (c.swap.ensures.y_after ∙ c.index_mut.ensures.value) ∙ sym (get_or-map (λ v. v.items) c.args.self.now.held.items c.args.thread _ [] c.requires.held)
    ∙ c.requires.nothing)
