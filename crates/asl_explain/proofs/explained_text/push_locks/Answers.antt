use Rattle.asl_explain.specs.Told.{lock_told}
use Rattle.asl_explain.specs.Telling.{given}
use Rattle.asl_explain.proofs.Piecing.{flat_none, flat_more, flat_all}
use Rattle.asl_explain.proofs.explained_text.push_locks.Goals as goal

pub loop-place-init : goal.loop-place-init
loop-place-init c = flat_none _ _ _

pub loop-place-preserved : goal.loop-place-preserved
loop-place-preserved c =
    flat_more (lock_told (given c.args.teller.now) c.args.section) c.args.listed.now c.loop-place.place _ _ _ _ _ c.loop-place-test.true c.index-listed-place.is c.loop-place.invariant c.in_ok-push_lock.ensures

pub returns : goal.returns
returns c = flat_all (lock_told (given c.args.teller.now) c.args.section) c.args.listed.now c.loop-place.place _ _ c.loop-place-test.false c.loop-place.invariant
