-- Machinery of the proofs, not of the promise: whether a store may change what an expression reads (src/stay.rt).
use Rattle.std.specs.Prelude.{ℕ, Bool, List, Option, Some}
use Rattle.asl_code.specs.declared.path.Op.{Op}
use Rattle.asl_points_to.specs.Classes.{Classed}
use Rattle.asl_lock_expr.specs.Links.{is_class, goes_through}

-- whether a `*` of the path is at an address of the class `hit`
abbrev pub meets : Classed → Option ℕ → Option ℕ → List Op → Bool
meets c hit class ops = goes_through c (λ stored. is_class (Some stored) hit) class ops
