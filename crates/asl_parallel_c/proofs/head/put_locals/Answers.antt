use Rattle.std.proofs.Common.{◌+◌}
use Rattle.asl_parallel_c.proofs.Locals.{local_left, no_local_left, locals_left}
use Rattle.asl_parallel_c.proofs.head.put_locals.Goals as goal

pub loop-register-init : goal.loop-register-init
loop-register-init g c = locals_left c.args.options.now c.args.number c.args.template.now c.args.text.now.items c.args.first c.args.count

pub loop-register-preserved : goal.loop-register-preserved
loop-register-preserved g c =
    local_left c.args.options.now c.args.number c.args.template.now _ c.loop-register.text.items c.put_local.new.text.items c.loop-register.register (c.args.first + c.args.count)
    c.loop-register-test.true c.loop-register.invariant c.in_ok-put_local.ensures.written

pub returns-clause-written : goal.returns-clause-written
returns-clause-written g c =
    no_local_left c.args.options.now c.args.number c.args.template.now _ c.loop-register.text.items c.loop-register.register (c.args.first + c.args.count)
    c.loop-register-test.false c.loop-register.invariant
