use Rattle.std.proofs.Common.{take, List}
use Rattle.asl_code.specs.declared.lock.Lock.{Lock}
use Rattle.asl_loader.specs.Bytes.{list_fields, IsList}
use Rattle.asl_loader.specs.Writing.{WritesEach}
use Rattle.asl_loader.proofs.image_writing.put_each_list.Given as goal

abbrev pub invariant-loop-list : goal.invariant-loop-list
invariant-loop-list l = WritesEach (List Lock) IsList list_fields l.initial.out.items l.out.items (take l.list-index l.lists)
