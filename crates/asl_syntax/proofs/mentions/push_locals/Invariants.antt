-- the mentions so far
use Rattle.std.proofs.Common.{◌≡◌, ◌++◌, drop, map}
use Rattle.asl_syntax.specs.Mentions.{UsesLocal}
use Rattle.asl_syntax.specs.MentionView.{mentions_of}
use Rattle.asl_syntax.proofs.mentions.push_locals.Given as goal

abbrev pub invariant-loop-name : goal.invariant-loop-name
invariant-loop-name l =
    mentions_of l.out.items ++ map UsesLocal (drop l.name-index l.names) ≡ mentions_of l.fn.out.items ++ map UsesLocal l.names
