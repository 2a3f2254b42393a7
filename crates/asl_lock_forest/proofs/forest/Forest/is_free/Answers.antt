use Rattle.std.proofs.Common.{subst}
use Rattle.asl_lock_forest.specs.Held.{Held}
use Rattle.asl_lock_forest.specs.Request.{GoesWithOthers, IsKeptFrom}
use Rattle.asl_lock_forest.proofs.SoundLaws.{free_goes, blocked_kept}
use Rattle.asl_lock_forest.proofs.forest.Forest.is_free.Goals as goal

pub returns-clause-free : goal.returns-clause-free
returns-clause-free c goes =
    subst (λ (f : Held). GoesWithOthers f.holding c.args.thread c.args.node c.args.want) c.self.view_is
    (free_goes c.self.invariant c.args.thread c.args.node c.args.want (c.is_free.ensures.free goes))

pub returns-clause-refused : goal.returns-clause-refused
returns-clause-refused c kept =
    subst (λ (f : Held). IsKeptFrom f.holding c.args.thread c.args.node c.args.want) c.self.view_is
    (blocked_kept c.self.invariant c.args.thread c.args.node c.args.want (c.is_free.ensures.blocked kept))
