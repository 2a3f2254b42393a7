-- the way so far leads up
use Rattle.std.proofs.Common.{ℕ}
use Rattle.asl_class_reasons.specs.Following.{IsBelow}
use Rattle.asl_class_reasons.proofs.join_numbers.JoinNumbers.root_at.Given as goal

abbrev pub invariant-loop : goal.invariant-loop
invariant-loop l = (n : ℕ) × IsBelow l.self l.before n l.place l.at
