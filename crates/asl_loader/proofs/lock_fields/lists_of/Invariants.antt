use Rattle.std.proofs.Common.{List}
use Rattle.asl_code.specs.declared.lock.Lock.{Lock}
use Rattle.asl_loader.specs.ImageFields.{items_at, list_at}
use Rattle.asl_loader.proofs.Lists.{HoldsLists}
use Rattle.asl_loader.proofs.Loop.{Kept}
use Rattle.asl_loader.proofs.lock_fields.lists_of.Given as goal

abbrev pub invariant-loop : goal.invariant-loop
invariant-loop l = Kept (List Lock) list_at (HoldsLists l.count l.lists) l.count l.counter l.rest (items_at list_at l.count l.bytes)
