-- the names so far, and then those that the statements left assign, are those of all
use Rattle.std.proofs.Common.{◌≡◌, drop}
use Rattle.asl_syntax.specs.View.{block_of}
use Rattle.asl_lower.specs.Names.{block_locals}
use Rattle.asl_map.proofs.map_names.+locals.Given as goal

abbrev pub invariant-add_block-loop-statement : goal.invariant-add_block-loop-statement
invariant-add_block-loop-statement l =
    block_locals l.names.items (block_of (drop l.statement-index l.block)) ≡ block_locals l.fn.names.items (block_of l.block)
