use Rattle.std.proofs.Common.{length}
use Rattle.asl_probe_locks.proofs.request.+is_named_once.Given as goal

abbrev pub decreases-is_named_once : goal.decreases-is_named_once
decreases-is_named_once l = length l.request.now
