use Rattle.std.proofs.Common.{◌+◌}
use Rattle.asl_parallel_c.proofs.Templates.{number_left, no_number_left, numbers_left}
use Rattle.asl_parallel_c.proofs.template.repeat.Goals as goal

pub loop-number-init : goal.loop-number-init
loop-number-init g c = numbers_left c.args.text.now.items c.args.template.now c.args.first c.args.count

pub loop-number-preserved : goal.loop-number-preserved
loop-number-preserved g c = number_left _ c.loop-number.text.items c.fill.new.text.items c.args.template.now c.loop-number.number (c.args.first + c.args.count) c.loop-number-test.true c.loop-number.invariant c.in_ok-fill.ensures.filled

pub returns-clause-repeated : goal.returns-clause-repeated
returns-clause-repeated g c = no_number_left _ c.loop-number.text.items c.args.template.now c.loop-number.number (c.args.first + c.args.count) c.loop-number-test.false c.loop-number.invariant
