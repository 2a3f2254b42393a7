use Rattle.asl_lower.specs.OutputView.{place_of}
use Rattle.asl_lower.proofs.Emits.{moves_room}
use Rattle.asl_lower.proofs.emit.emit_moves.Goals as goal

pub push-requires : goal.push-requires
push-requires c =
    moves_room c.args.arguments.now c.loop-argument.argument-index (place_of c.loop-argument.out) (place_of c.args.out.now) c.loop-argument.invariant.3 c.loop-argument-test.true c.requires.room
