-- the code so far and that of the statements left are the code of all
use Rattle.std.proofs.Common.{◌≡◌, ◌+◌, ◌≤◌, ◌++◌, drop, length}
use Rattle.asl_syntax.specs.View.{block_of}
use Rattle.asl_lower.specs.Names.{block_arguments}
use Rattle.asl_lower.specs.Place.{past_block}
use Rattle.asl_lower.specs.Layout.{block_code, block_sections}
use Rattle.asl_lower.specs.OutputView.{place_of}
use Rattle.asl_lower.specs.ScopeView.{scope_view}
use Rattle.asl_lower.proofs.statements.+emit.Given as goal

abbrev pub invariant-emit_block-loop-statement : goal.invariant-emit_block-loop-statement
invariant-emit_block-loop-statement l =
    (length l.scope.locals.now + block_arguments (block_of (drop l.statement-index l.block)) ≤ 64)
    × (l.out.code.items ++ block_code (scope_view l.scope) (block_of (drop l.statement-index l.block)) (place_of l.out) ≡ l.fn.out.code.items ++ block_code (scope_view l.scope) (block_of l.block) (place_of l.fn.out))
    × (l.out.sections.items ++ block_sections (scope_view l.scope) (block_of (drop l.statement-index l.block)) (place_of l.out) ≡ l.fn.out.sections.items ++ block_sections (scope_view l.scope) (block_of l.block) (place_of l.fn.out))
    × (past_block (block_of l.block) (place_of l.fn.out) ≡ past_block (block_of (drop l.statement-index l.block)) (place_of l.out))
