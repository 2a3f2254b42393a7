use Rattle.std.proofs.Common.{refl}
use Rattle.asl_parallel_c.proofs.Templates.{next_left, none_left}
use Rattle.asl_parallel_c.proofs.template.fill.Goals as goal

pub loop-byte-init : goal.loop-byte-init
loop-byte-init g c = refl

pub loop-byte-preserved : goal.loop-byte-preserved
loop-byte-preserved g c = next_left _ c.loop-byte.text.items c.put_next.new.text.items c.args.template.now c.loop-byte.byte-index c.loop-byte.rest.now c.in_ok-rest.rest.now c.loop-byte-test.true c.loop-byte.invariant c.in_ok-rest.ensures.written

pub returns-clause-filled : goal.returns-clause-filled
returns-clause-filled g c = none_left _ c.loop-byte.text.items c.args.template.now c.loop-byte.byte-index c.loop-byte.rest.now c.loop-byte-test.false c.loop-byte.invariant
