-- what is left gives the answer
use Rattle.std.proofs.Common.{◌≡◌, drop}
use Rattle.std.specs.List.{list_any}
use Rattle.asl_syntax.specs.Mentions.{block_mentions}
use Rattle.asl_syntax.specs.View.{block_of}
use Rattle.asl_syntax.specs.NumberedNamesView.{counts_in}
use Rattle.asl_syntax.specs.Rules.{is_wrong_call}
use Rattle.asl_syntax.proofs.call_arity.+calls.Given as goal

abbrev pub invariant-block_has_wrong_call-loop-statement : goal.invariant-block_has_wrong_call-loop-statement
invariant-block_has_wrong_call-loop-statement l =
    list_any (is_wrong_call (counts_in l.counts)) (block_mentions (block_of (drop l.statement-index l.block))) ≡ list_any (is_wrong_call (counts_in l.counts)) (block_mentions (block_of l.block))
