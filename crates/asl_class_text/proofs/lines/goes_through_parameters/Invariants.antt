use Rattle.std.proofs.Common.{◌≡◌, drop}
use Rattle.std.specs.List.{list_any}
use Rattle.asl_class_text.specs.Kinds.{is_passed}
use Rattle.asl_class_text.proofs.lines.goes_through_parameters.Given as goal

abbrev pub invariant-loop-told : goal.invariant-loop-told
invariant-loop-told l = list_any (is_passed l.facts) (drop l.told-index l.chain) ≡ list_any (is_passed l.facts) l.chain
