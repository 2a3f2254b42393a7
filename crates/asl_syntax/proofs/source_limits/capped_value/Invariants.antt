-- the value so far, with the digits that are left, gives the answer
use Rattle.std.proofs.Common.{◌≡◌, ◌≤◌, drop, min}
use Rattle.asl_grammar.specs.Lex.{value_from}
use Rattle.asl_syntax.proofs.source_limits.capped_value.Given as goal

abbrev pub invariant-loop-d : goal.invariant-loop-d
invariant-loop-d l =
    (min (value_from l.value (drop l.d-index l.digits)) 4294967295 ≡ min (value_from 0 l.digits) 4294967295) × (l.value ≤ 4294967295)
