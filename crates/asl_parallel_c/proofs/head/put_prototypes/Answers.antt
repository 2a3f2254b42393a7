use Rattle.std.proofs.Common.{◌+◌, List, refl}
use Rattle.asl_code.specs.declared.image.Function.{Function}
use Rattle.asl_parallel_c.specs.Functions.{prototypes_from}
use Rattle.asl_parallel_c.proofs.Rows.{item_at, all_done}
use Rattle.asl_parallel_c.proofs.head.put_prototypes.Goals as goal

pub loop-number-preserved : goal.loop-number-preserved
loop-number-preserved g c = item_at (λ (l : List Function). prototypes_from c.args.options.now c.loop-number.number l) (λ (l : List Function). prototypes_from c.args.options.now (c.loop-number.number + 1) l)
    _ _ c.loop-number.text.items c.put_prototype.new.text.items c.args.functions.now c.loop-number.number _ c.loop-number-test.true c.loop-number.invariant c.in_ok-put_prototype.ensures.written refl

pub returns-clause-written : goal.returns-clause-written
returns-clause-written g c = all_done (λ (l : List Function). prototypes_from c.args.options.now c.loop-number.number l) (λ (l : List Function). prototypes_from c.args.options.now c.loop-number.number l)
    _ c.loop-number.text.items c.args.functions.now c.loop-number.number c.loop-number-test.false refl c.loop-number.invariant
