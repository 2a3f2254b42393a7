use Rattle.std.proofs.Common.{◌+◌, get_or, drop, sym, subst, arith, ◌∙◌}
use Rattle.std.proofs.lemmas.List.{drop_more, length-drop}
use Rattle.asl_mode_lanes.specs.declared.mode.Mode.TheVariants.{NL}
use Rattle.asl_mode_lanes.specs.Row.{IsCode}
use Rattle.asl_lock_forest.specs.declared.node.Node.TheVariants.{Root}
use Rattle.asl_lock_forest.specs.Leaves.{HasRoom}
use Rattle.asl_lock_forest.specs.Rows.{Sets}
use Rattle.asl_lock_forest.proofs.RowsLaws.{IsCode-mode}
use Rattle.asl_lock_forest.proofs.RequestRows.{Granting, granting_first, granting_step, asked_at, some_room, code_asked}
use Rattle.asl_lock_forest.proofs.rows.Rows.grant.Goals as goal

pub loop-ask-init : goal.loop-ask-init
loop-ask-init c = record { granting = granting_first c.args.self.now c.args.thread c.args.request.now c.requires.kept; room = c.requires.room }

pub set-requires-clause-is_code : goal.set-requires-clause-is_code
set-requires-clause-is_code c = subst IsCode (sym c.code.ensures) (IsCode-mode (get_or c.args.request.now c.loop-ask.ask-index (Root, NL)).1)

pub set-requires-clause-holds : goal.set-requires-clause-holds
set-requires-clause-holds c zero_code = code_asked c.args.request.now c.loop-ask.ask-index (Root, NL) c.requires.modes c.loop-ask-test.true (sym c.code.ensures ∙ zero_code)

pub set-requires-clause-room : goal.set-requires-clause-room
set-requires-clause-room c = some_room _ _ (let left = length-drop c.loop-ask.ask-index c.args.request.now in omega (arith, left, c.loop-ask-test.true)) c.loop-ask.invariant.room

pub loop-ask-preserved : goal.loop-ask-preserved
loop-ask-preserved c = record {
  granting = granting_step c.args.self.now c.loop-ask.self c.set.new.self c.args.thread c.args.request.now (drop (c.loop-ask.ask-index + 1) c.args.request.now)
      (get_or c.args.request.now c.loop-ask.ask-index (Root, NL))
      c.requires.thread_there (asked_at c.args.request.now c.loop-ask.ask-index (Root, NL) c.requires.distinct c.loop-ask-test.true)
      (subst (Granting c.args.self.now c.loop-ask.self c.args.thread c.args.request.now) (drop_more c.args.request.now c.loop-ask.ask-index (Root, NL) c.loop-ask-test.true) c.loop-ask.invariant.granting)
      (subst (λ k. Sets c.loop-ask.self c.args.thread (get_or c.args.request.now c.loop-ask.ask-index (Root, NL)).0 k c.set.new.self) c.code.ensures c.set.ensures.sets);
  room = c.set.ensures.room _ (subst (HasRoom c.loop-ask.self.leaves)
      (let left = length-drop c.loop-ask.ask-index c.args.request.now in let next = length-drop (c.loop-ask.ask-index + 1) c.args.request.now in omega (arith, left, next, c.loop-ask-test.true))
      c.loop-ask.invariant.room);
}
