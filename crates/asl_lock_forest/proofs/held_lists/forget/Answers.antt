use Rattle.std.proofs.Common.{ap, ◌∙◌, slice_set, map}
use Rattle.asl_lock_forest.proofs.SoundLaws.{map_set}
use Rattle.asl_lock_forest.proofs.held_lists.forget.Goals as goal

pub returns : goal.returns
returns c = map_set (λ v. v.items) c.args.held.now.items c.args.thread _ ∙ ap (slice_set (map (λ v. v.items) c.args.held.now.items) c.args.thread) c.clear.ensures.items
