use Rattle.std.proofs.Common.{ap, sym, ◌∙◌, arith}
use Rattle.asl_code.specs.Versions.{limits_of}
use Rattle.asl_code.proofs.Versions.{first, second, first_set, second_set, other_set, threads_set, locks_set, fresh_set}
use Rattle.asl_code.proofs.image_limits.limits_of.Goals as goal

pub returns-in-1-clause-limits : goal.returns-in-1-clause-limits
returns-in-1-clause-limits c = sym (ap limits_of c.in-1.is ∙ first_set)

pub returns-in-1-clause-threads : goal.returns-in-1-clause-threads
returns-in-1-clause-threads c = threads_set c.args.version first (ap limits_of c.in-1.is ∙ first_set)

pub returns-in-1-clause-locks : goal.returns-in-1-clause-locks
returns-in-1-clause-locks c = locks_set c.args.version first (ap limits_of c.in-1.is ∙ first_set)

pub returns-in-1-clause-fresh : goal.returns-in-1-clause-fresh
returns-in-1-clause-fresh c = fresh_set c.args.version first (ap limits_of c.in-1.is ∙ first_set)

pub returns-in-2-clause-limits : goal.returns-in-2-clause-limits
returns-in-2-clause-limits c = sym (ap limits_of c.in-2.is ∙ second_set)

pub returns-in-2-clause-threads : goal.returns-in-2-clause-threads
returns-in-2-clause-threads c = threads_set c.args.version second (ap limits_of c.in-2.is ∙ second_set)

pub returns-in-2-clause-locks : goal.returns-in-2-clause-locks
returns-in-2-clause-locks c = locks_set c.args.version second (ap limits_of c.in-2.is ∙ second_set)

pub returns-in-2-clause-fresh : goal.returns-in-2-clause-fresh
returns-in-2-clause-fresh c = fresh_set c.args.version second (ap limits_of c.in-2.is ∙ second_set)

pub returns-in_default-clause-limits : goal.returns-in_default-clause-limits
returns-in_default-clause-limits c = sym (other_set c.args.version (λ one. absurd (omega (arith, one))) (λ two. absurd (omega (arith, two))))
