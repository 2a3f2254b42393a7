-- what is written so far
use Rattle.std.proofs.Common.{string_bytes}
use Rattle.asl_lists.specs.Driver.{caller}
use Rattle.asl_lists.proofs.Made.{Made}
use Rattle.asl_lists.proofs.driver.push_callers.Given as goal

abbrev pub invariant-loop-number : goal.invariant-loop-number
invariant-loop-number l = Made caller l.entries l.number (string_bytes l.initial.text) (string_bytes l.text)
