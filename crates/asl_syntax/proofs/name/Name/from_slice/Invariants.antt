-- the bytes so far
use Rattle.std.proofs.Common.{◌≡◌, take}
use Rattle.asl_syntax.proofs.name.Name.from_slice.Given as goal

abbrev pub invariant-loop-b : goal.invariant-loop-b
invariant-loop-b l = l.name.items ≡ take l.b-index l.bytes
