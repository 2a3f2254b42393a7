-- What evaluations see of a heap whose only object has the number 1.
use Rattle.std.specs.Prelude.{ℕ, ◌==◌, List, Option, None, Some, length, slice_get, if◌then◌else◌}
use Rattle.asl_code.specs.declared.value.Value.{Value}
use Rattle.asl_expression.specs.Expression.{Seen}

-- what evaluations see of the heap where these are the cells of that object
abbrev pub one_object : List Value → Seen
one_object cells =
    record { cell = λ c. if c.object == 1 then slice_get cells c.offset else None; size = λ o. if o == 1 then Some (length cells) else None }
