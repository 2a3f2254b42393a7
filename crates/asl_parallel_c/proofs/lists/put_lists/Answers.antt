use Rattle.std.proofs.Common.{◌+◌, List, refl}
use Rattle.asl_code.specs.declared.lock.Lock.{Lock}
use Rattle.asl_parallel_c.specs.Lists.{lists_from}
use Rattle.asl_parallel_c.proofs.Rows.{item_done, all_done}
use Rattle.asl_parallel_c.proofs.lists.put_lists.Goals as goal

pub loop-number-preserved : goal.loop-number-preserved
loop-number-preserved g c = item_done (λ (l : List (List Lock)). lists_from c.loop-number.number l) (λ (l : List (List Lock)). lists_from (c.loop-number.number + 1) l)
    _ _ c.loop-number.text.items c.put_list.new.text.items c.args.lists.now c.loop-number.number c.index-lists-number.result c.loop-number-test.true c.index-lists-number.is c.loop-number.invariant (rw c.as_slice.ensures at c.in_ok-put_list.ensures.written) refl

pub returns-clause-written : goal.returns-clause-written
returns-clause-written g c = all_done (λ (l : List (List Lock)). lists_from c.loop-number.number l) (λ (l : List (List Lock)). lists_from c.loop-number.number l)
    _ c.loop-number.text.items c.args.lists.now c.loop-number.number c.loop-number-test.false refl c.loop-number.invariant
