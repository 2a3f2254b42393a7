-- the mentions so far
use Rattle.std.proofs.Common.{◌≡◌, ◌++◌, drop, map}
use Rattle.asl_syntax.specs.Mentions.{DeclaresParameter}
use Rattle.asl_syntax.specs.MentionView.{mentions_of}
use Rattle.asl_syntax.proofs.mentions.push_parameters.Given as goal

abbrev pub invariant-loop-name : goal.invariant-loop-name
invariant-loop-name l =
    mentions_of l.out.items ++ map DeclaresParameter (drop l.name-index l.names) ≡ mentions_of l.fn.out.items ++ map DeclaresParameter l.names
