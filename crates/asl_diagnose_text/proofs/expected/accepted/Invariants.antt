use Rattle.std.proofs.Common.{◌≡◌, take}
use Rattle.std.specs.List.{filter}
use Rattle.asl_diagnose_text.specs.WalkView.{walk_place}
use Rattle.asl_diagnose_text.specs.declared.kind.TheConstants.{ALL_KINDS}
use Rattle.asl_diagnose_text.proofs.Accepted.{goes_on}
use Rattle.asl_diagnose_text.proofs.expected.accepted.Given as goal

abbrev pub invariant-loop-kind : goal.invariant-loop-kind
invariant-loop-kind l = l.kinds.items ≡ filter (goes_on (walk_place l.walk)) (take l.kind-index ALL_KINDS)
