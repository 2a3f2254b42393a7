use Rattle.std.proofs.Common.{◌≡◌, ◌-◌, length}
use Rattle.asl_loader.specs.ImageFields.{items_at, op_at}
use Rattle.asl_loader.proofs.Loop.{with_front}
use Rattle.asl_loader.proofs.lock_fields.ops_of.Given as goal

abbrev pub invariant-loop : goal.invariant-loop
invariant-loop l = record { so_far : with_front l.path (items_at op_at (l.count - l.counter) l.rest) ≡ items_at op_at l.count l.bytes; len : length l.path ≡ l.counter }
