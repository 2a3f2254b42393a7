-- what is left gives the answer
use Rattle.std.proofs.Common.{◌≡◌, drop, map}
use Rattle.asl_syntax.specs.View.{item_of}
use Rattle.asl_syntax.specs.NumberedNamesView.{names_known}
use Rattle.asl_syntax.specs.Rules.{first_unknown}
use Rattle.asl_syntax.proofs.names.unknown.Given as goal

abbrev pub invariant-loop-item : goal.invariant-loop-item
invariant-loop-item l =
    first_unknown (names_known l.globals) (names_known l.functions) (map item_of (drop l.item-index l.items)) ≡ first_unknown (names_known l.globals) (names_known l.functions) (map item_of l.items)
