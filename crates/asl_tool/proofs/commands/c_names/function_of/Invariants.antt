-- none of those so far has the name
use Rattle.std.proofs.Common.{◌≢◌, ◌<◌, ℕ, Some}
use Rattle.asl_map.specs.Names.{function_name}
use Rattle.asl_tool.proofs.commands.c_names.function_of.Given as goal

abbrev pub invariant-loop-number : goal.invariant-loop-number
invariant-loop-number l = (function : ℕ) → function < l.number → function_name l.source_map function ≢ Some l.name
