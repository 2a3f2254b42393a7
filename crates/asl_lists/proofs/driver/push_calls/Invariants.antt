-- what is written so far
use Rattle.std.proofs.Common.{string_bytes}
use Rattle.asl_lists.specs.Driver.{call}
use Rattle.asl_lists.proofs.Made.{Made}
use Rattle.asl_lists.proofs.driver.push_calls.Given as goal

abbrev pub invariant-loop-number : goal.invariant-loop-number
invariant-loop-number l = Made call l.entries l.number (string_bytes l.initial.text) (string_bytes l.text)
