use Rattle.std.proofs.Common.{sym}
use Rattle.asl_code.proofs.Versions.{none_fresh}
use Rattle.asl_code.proofs.image_limits.has_fresh.Goals as goal

pub returns-in-None : goal.returns-in-None
returns-in-None c = sym (none_fresh c.args.version (sym c.in-None.ensures.limits))
