-- the mentions so far and those of what is left are those of all
use Rattle.std.proofs.Common.{◌≡◌, ◌++◌, drop}
use Rattle.asl_syntax.specs.Mentions.{block_mentions}
use Rattle.asl_syntax.specs.View.{block_of}
use Rattle.asl_syntax.specs.MentionView.{mentions_of}
use Rattle.asl_syntax.proofs.mentions.+mentions.Given as goal

abbrev pub invariant-push_block-loop-statement : goal.invariant-push_block-loop-statement
invariant-push_block-loop-statement l =
    mentions_of l.out.items ++ block_mentions (block_of (drop l.statement-index l.block)) ≡ mentions_of l.fn.out.items ++ block_mentions (block_of l.block)
