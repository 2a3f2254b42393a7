-- the declarations so far and those of what is left are those of all
use Rattle.std.proofs.Common.{◌≡◌, ◌++◌, drop, map}
use Rattle.asl_syntax.specs.Declarations.{declarations}
use Rattle.asl_syntax.specs.View.{item_of}
use Rattle.asl_syntax.specs.MentionView.{mentions_of}
use Rattle.asl_syntax.proofs.mentions.declarations.Given as goal

abbrev pub invariant-loop-item : goal.invariant-loop-item
invariant-loop-item l =
    mentions_of l.out.items ++ declarations (map item_of (drop l.item-index l.items)) ≡ declarations (map item_of l.items)
