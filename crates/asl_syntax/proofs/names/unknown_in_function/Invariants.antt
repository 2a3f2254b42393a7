-- what is left gives the answer
use Rattle.std.proofs.Common.{◌≡◌, drop}
use Rattle.asl_syntax.specs.MentionView.{mentions_of}
use Rattle.asl_syntax.specs.NumberedNamesView.{names_known}
use Rattle.asl_syntax.specs.Rules.{first_unknown_use}
use Rattle.asl_syntax.proofs.names.unknown_in_function.Given as goal

abbrev pub invariant-loop-mention : goal.invariant-loop-mention
invariant-loop-mention l =
    first_unknown_use (names_known l.globals) (names_known l.functions) (names_known l.locals) (mentions_of (drop l.mention-index l.mention-items)) ≡ first_unknown_use (names_known l.globals) (names_known l.functions) (names_known l.locals) (mentions_of l.mention-items)
