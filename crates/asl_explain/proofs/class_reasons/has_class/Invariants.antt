-- what is left gives the answer
use Rattle.std.proofs.Common.{◌≡◌, drop}
use Rattle.asl_explain.specs.Telling.{is_listed}
use Rattle.asl_explain.proofs.class_reasons.has_class.Given as goal

abbrev pub invariant-loop-lock : goal.invariant-loop-lock
invariant-loop-lock l = is_listed l.class (drop l.lock-index l.list) ≡ is_listed l.class l.list
