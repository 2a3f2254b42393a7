-- what is left gives the answer
use Rattle.std.proofs.Common.{◌≡◌, drop, map}
use Rattle.std.specs.List.{list_any}
use Rattle.asl_syntax.specs.Mentions.{mentions}
use Rattle.asl_syntax.specs.View.{item_of}
use Rattle.asl_syntax.specs.NumberedNamesView.{counts_in}
use Rattle.asl_syntax.specs.Rules.{is_wrong_call}
use Rattle.asl_syntax.proofs.call_arity.has_wrong_call.Given as goal

abbrev pub invariant-loop-item : goal.invariant-loop-item
invariant-loop-item l =
    list_any (is_wrong_call (counts_in l.counts)) (mentions (map item_of (drop l.item-index l.items))) ≡ list_any (is_wrong_call (counts_in l.counts)) (mentions (map item_of l.items))
