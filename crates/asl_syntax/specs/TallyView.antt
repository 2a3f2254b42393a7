-- Machinery of the proofs, not of the promise: the code's counts (src/source_limits.rt) as what the limits of docs/SOURCE.md
-- count.
use Rattle.std.specs.Option.{option_map}
use Rattle.asl_grammar.specs.View.{token_of}
use Rattle.asl_syntax.specs.declared.source_limits.Counts as code
use Rattle.asl_syntax.specs.Limit.{Tally}

-- the code's counts
abbrev pub tally_in : code.Counts → Tally
tally_in c = record {
  last = option_map token_of c.last;
  functions = c.functions;
  globals = c.globals;
  atomics = c.atomics;
  braces = c.braces;
  head = c.head;
}
