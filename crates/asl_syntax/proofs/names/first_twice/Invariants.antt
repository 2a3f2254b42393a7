-- what is left gives the answer
use Rattle.std.proofs.Common.{◌≡◌, drop}
use Rattle.asl_syntax.specs.MentionView.{mentions_of}
use Rattle.asl_syntax.specs.NumberedNamesView.{names_known}
use Rattle.asl_syntax.specs.Rules.{no_name, first_twice}
use Rattle.asl_syntax.proofs.names.first_twice.Given as goal

abbrev pub invariant-loop-mention : goal.invariant-loop-mention
invariant-loop-mention l =
    first_twice (names_known l.globals) (names_known l.functions) (names_known l.parameters) (mentions_of (drop l.mention-index l.mentions)) ≡ first_twice no_name no_name no_name (mentions_of l.mentions)
