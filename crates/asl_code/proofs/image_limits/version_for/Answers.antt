use Rattle.std.proofs.Common.{sym, arith}
use Rattle.asl_code.proofs.Versions.{version_of_few, version_of_many}
use Rattle.asl_code.proofs.image_limits.version_for.Goals as goal

pub returns-then-threads : goal.returns-then-threads
returns-then-threads c = sym (version_of_few c.args.threads (omega arith))

pub returns-else-threads : goal.returns-else-threads
returns-else-threads c = sym (version_of_many c.args.threads (omega arith))
