use Rattle.std.proofs.lemmas.List.Elements.{All-from_recursion}
use Rattle.std.specs.Prelude.{length, ◌<◌, ◌^◌}
use Rattle.std.proofs.Common.{List}
use Rattle.asl_code.specs.declared.lock.Lock.{Lock}
use Rattle.asl_loader.specs.Bytes.{list_fields, IsList}
use Rattle.asl_loader.proofs.Writes.{none_written, more_written, all_written}
use Rattle.asl_loader.proofs.image_writing.put_each_list.Goals as goal

pub loop-list-init : goal.loop-list-init
loop-list-init c = none_written (List Lock) IsList list_fields c.args.out.now.items

pub loop-list-preserved : goal.loop-list-preserved
loop-list-preserved c = more_written (List Lock) IsList list_fields c.args.out.now.items c.loop-list.out.items c.put_list.new.out.items c.args.lists.now c.loop-list.list-index c.list-item.result c.loop-list-test.true c.list-item.is c.loop-list.invariant (rw c.as_slice.ensures at c.in_ok-put_list.ensures)

pub returns : goal.returns
returns c = all_written (List Lock) IsList list_fields c.args.out.now.items c.loop-list.out.items c.args.lists.now c.loop-list.list-index c.loop-list-test.false c.loop-list.invariant

pub put_list-requires : goal.put_list-requires
put_list-requires c = rw (c.as_slice.ensures, c.list-item.is) (All-from_recursion (λ (l : List Lock). length l < 2 ^ 16) c.args.lists.now c.requires c.loop-list.list-index _ c.loop-list-test.true)
