use Rattle.std.proofs.Common.{◌≡◌, ◌+◌, ◌++◌, drop, length}
use Rattle.asl_parallel_c.specs.Functions.{functions_from}
use Rattle.asl_parallel_c.proofs.functions.put_functions.Given as goal

-- where the rest of the code begins, and what is left to be written
abbrev pub invariant-loop-number : goal.invariant-loop-number
invariant-loop-number g l = record {
  place : l.place + length l.rest ≡ length l.code;
  written : l.text.items ++ functions_from l.program l.options l.number (drop l.number l.functions) l.place l.rest ≡ l.fn.text.items ++ functions_from l.program l.options 0 l.functions 0 l.code;
}
