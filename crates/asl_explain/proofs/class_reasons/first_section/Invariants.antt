-- what is left gives the answer
use Rattle.std.proofs.Common.{◌≡◌, drop}
use Rattle.asl_explain.specs.Telling.{first_list}
use Rattle.asl_explain.proofs.class_reasons.first_section.Given as goal

abbrev pub invariant-loop-number : goal.invariant-loop-number
invariant-loop-number l = first_list l.class l.number (drop l.number l.lists) ≡ first_list l.class 0 l.lists
