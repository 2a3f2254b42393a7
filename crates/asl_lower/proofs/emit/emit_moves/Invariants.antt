-- the code so far and that of the arguments left are the code of all
use Rattle.std.proofs.Common.{◌≡◌, ◌+◌, ◌++◌, drop}
use Rattle.asl_lower.specs.Place.{past_moves}
use Rattle.asl_lower.specs.Layout.{moves}
use Rattle.asl_lower.specs.OutputView.{place_of}
use Rattle.asl_lower.specs.ScopeView.{scope_view}
use Rattle.asl_lower.proofs.emit.emit_moves.Given as goal

abbrev pub invariant-loop-argument : goal.invariant-loop-argument
invariant-loop-argument l =
    (l.to ≡ l.first + l.argument-index)
    × (l.out.code.items ++ moves (scope_view l.scope) (drop l.argument-index l.arguments) l.to ≡ l.fn.out.code.items ++ moves (scope_view l.scope) l.arguments l.first)
    × (l.out.sections.items ≡ l.fn.out.sections.items)
    × (past_moves l.arguments (place_of l.fn.out) ≡ past_moves (drop l.argument-index l.arguments) (place_of l.out))
