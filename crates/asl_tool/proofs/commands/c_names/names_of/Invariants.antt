-- what is made and what is left are all
use Rattle.std.proofs.Common.{◌≡◌, ◌++◌, drop, map, string_bytes}
use Rattle.asl_tool.specs.C.{function_words}
use Rattle.asl_tool.proofs.commands.c_names.names_of.Given as goal

abbrev pub invariant-loop-function : goal.invariant-loop-function
invariant-loop-function l = map string_bytes l.names.items ++ map function_words (drop l.function-index l.functions) ≡ map function_words l.functions
