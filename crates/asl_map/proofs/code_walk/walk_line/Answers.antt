use Rattle.asl_map.proofs.Walking.{replicate_more}
use Rattle.asl_map.proofs.code_walk.walk_line.Goals as goal

pub loop-preserved : goal.loop-preserved
loop-preserved c =
    record { pieces = replicate_more c.loop.counter c.pass_piece-piece.result _ _ _ c.in_ok-push.ensures.items c.loop.invariant.pieces; tokens = c.loop.invariant.tokens }
