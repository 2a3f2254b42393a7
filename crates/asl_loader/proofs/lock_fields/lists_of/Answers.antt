use Rattle.std.proofs.Common.{List, nat_le, ◌&&◌}
use Rattle.std.specs.List.{list_all}
use Rattle.std.proofs.lemmas.Result.{err_from_is_err_and}
use Rattle.asl_code.specs.declared.lock.Lock.{Lock}
use Rattle.asl_loader.specs.Faults.{is_short}
use Rattle.asl_loader.specs.ImageFields.{items_at, list_at}
use Rattle.asl_loader.proofs.Lists.{HoldsLists, more_lists, lists_read}
use Rattle.asl_loader.proofs.Loop.{kept_more, kept_ends}
use Rattle.asl_loader.proofs.lock_fields.lists_of.Goals as goal

pub returns-in_err-list : goal.returns-in_err-list
returns-in_err-list c =
    let p = err_from_is_err_and c.from_residual.result c.from_residual.ensures.1 in
    rw (p.1, p.2) (kept_ends (List Lock) list_at c.in_err-list.field-0.0 (HoldsLists c.args.count c.loop.lists) c.args.count c.loop.counter c.loop.rest.now (items_at list_at c.args.count c.args.bytes.now) c.loop.invariant c.loop-test.true c.in_err-list.ensures)

pub loop-preserved : goal.loop-preserved
loop-preserved c =
    let list = c.in_ok-list.ensures in
    kept_more (List Lock) list_at (HoldsLists c.args.count c.loop.lists) (HoldsLists c.args.count c.with_list-lists.result) c.args.count c.loop.counter c.loop.rest.now list.0 c.in_ok-list.after.now (items_at list_at c.args.count c.args.bytes.now) c.loop.invariant c.loop-test.true list.2
    (λ front is. more_lists c.args.count c.with_list-lists.result front list.0 (c.with_list-lists.ensures (nat_le c.args.count 1024 && list_all is_short front) (is_short list.0) front list.0 is list.1))

pub returns : goal.returns
returns c = lists_read c.loop.lists c.args.count c.loop.counter c.args.bytes.now c.loop.rest.now c.loop.invariant c.loop-test.false
