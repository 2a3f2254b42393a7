-- Which functions a program may ever run (docs/SOURCE.md, "The map").
use Rattle.std.specs.Prelude.{ℕ}
use Rattle.asl_lower.specs.Lowered.{Lowered}
use Rattle.asl_lower.specs.OpenSections.{InBody, CallsAt}

-- `main`, and each function that such a function calls
pub data IsReached (l : Lowered) : ℕ → Type 0 where
  Main : IsReached l l.main
  Called : (caller pc callee : ℕ) → IsReached l caller → InBody l caller pc → CallsAt l pc callee → IsReached l callee
