use Rattle.std.proofs.Common.{rules}
use Rattle.asl_tool.proofs.Writing.{wrote_nothing, wrote_more, wrote_kept, wrote_all, wrote_part, kept_at_first, kept_more, lacked, tells_all, tells_part}
use Rattle.asl_tool.proofs.streams.write_whole.Goals as goal

pub loop-rest-init : goal.loop-rest-init
loop-rest-init g c = record { wrote = wrote_nothing _ _; kept = kept_at_first _ _ }

pub loop-rest-preserved : goal.loop-rest-preserved
loop-rest-preserved g c =
    rw c.split_at.ensures.back record {
      wrote = wrote_more _ _ _ _ _ _ c.loop-rest.invariant.wrote c.in-Ok.ensures.bytes;
      kept = kept_more _ _ _ _ _ _ c.loop-rest.invariant.kept c.in-Ok.ensures.some.1 c.in-Ok.ensures.left;
    }

pub returns-clause-ok : goal.returns-clause-ok
returns-clause-ok g c = wrote_all _ _ _ _ (search rules) c.loop-rest.invariant.wrote

pub returns-clause-told : goal.returns-clause-told
returns-clause-told g c = tells_all _ _ _ _ (wrote_all _ _ _ _ (search rules) c.loop-rest.invariant.wrote)

pub returns-in-Err-clause-err : goal.returns-in-Err-clause-err
returns-in-Err-clause-err g c = wrote_part _ _ _ _ (wrote_kept _ _ _ _ _ c.loop-rest.invariant.wrote c.in-Err.ensures.kept)

pub returns-in-Err-clause-full : goal.returns-in-Err-clause-full
returns-in-Err-clause-full g c = lacked _ _ _ _ c.loop-rest.invariant.kept c.in-Err.ensures.full

pub returns-in-Err-clause-told : goal.returns-in-Err-clause-told
returns-in-Err-clause-told g c =
    tells_part _ _ _ _ (lacked _ _ _ _ c.loop-rest.invariant.kept c.in-Err.ensures.full)
    (wrote_part _ _ _ _ (wrote_kept _ _ _ _ _ c.loop-rest.invariant.wrote c.in-Err.ensures.kept))
