use Rattle.asl_code.proofs.Versions.{version_is_there, version_enough, version_first}
use Rattle.asl_code.proofs.laws.the_first_version_has_the_threads.Goals as goal

pub returns-clause-there : goal.returns-clause-there
returns-clause-there c = version_is_there

pub returns-clause-enough : goal.returns-clause-enough
returns-clause-enough c = version_enough

pub returns-clause-first : goal.returns-clause-first
returns-clause-first c = version_first
