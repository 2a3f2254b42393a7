-- what was passed so far, and the statements left
use Rattle.std.proofs.Common.{◌≡◌, ◌≤◌, drop}
use Rattle.asl_syntax.specs.View.{block_of}
use Rattle.asl_diagnose_text.specs.AccessView.{after_block, room}
use Rattle.asl_diagnose_text.proofs.code_walk.+past.Given as goal

abbrev pub invariant-past_block-loop-statement : goal.invariant-past_block-loop-statement
invariant-past_block-loop-statement l =
    (after_block l.after (block_of (drop l.statement-index l.block)) ≡ after_block l.fn.passed (block_of l.block)) × (room l.after ≤ room l.fn.passed)
