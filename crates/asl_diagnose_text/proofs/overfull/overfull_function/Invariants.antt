use Rattle.std.proofs.Common.{map, drop}
use Rattle.asl_syntax.specs.View.{item_of}
use Rattle.asl_syntax.specs.Tree.{functions_of}
use Rattle.asl_diagnose_text.proofs.Sizes.{IsPast}
use Rattle.asl_diagnose_text.proofs.overfull.overfull_function.Given as goal

abbrev pub invariant-loop-item : goal.invariant-loop-item
invariant-loop-item l =
    IsPast (functions_of (map item_of l.items)) (functions_of (map item_of (drop l.item-index l.items))) l.number l.passed
