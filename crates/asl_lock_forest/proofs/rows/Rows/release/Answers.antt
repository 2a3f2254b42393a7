use Rattle.std.proofs.Common.{◌+◌, drop, subst}
use Rattle.std.proofs.lemmas.List.{drop_more}
use Rattle.asl_mode_lanes.specs.declared.mode.Mode.TheVariants.{NL}
use Rattle.asl_lock_forest.specs.declared.node.Node.TheVariants.{Root}
use Rattle.asl_lock_forest.proofs.RequestRows.{Clearing, clearing_first, clearing_step}
use Rattle.asl_lock_forest.proofs.rows.Rows.release.Goals as goal

pub loop-ask-init : goal.loop-ask-init
loop-ask-init c = clearing_first c.args.self.now c.args.thread c.args.held.now c.requires.kept

pub loop-ask-preserved : goal.loop-ask-preserved
loop-ask-preserved c =
    clearing_step c.args.self.now c.loop-ask.self c.clear.new.self c.args.thread c.args.held.now (drop (c.loop-ask.ask-index + 1) c.args.held.now) _
    c.requires.thread_there
    (subst (Clearing c.args.self.now c.loop-ask.self c.args.thread c.args.held.now) (drop_more c.args.held.now c.loop-ask.ask-index (Root, NL) c.loop-ask-test.true) c.loop-ask.invariant)
    c.clear.ensures
