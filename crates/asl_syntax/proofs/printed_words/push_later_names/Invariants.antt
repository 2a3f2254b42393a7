-- what is written and what is left are the names
use Rattle.std.proofs.Common.{◌≡◌, ◌++◌, drop}
use Rattle.asl_syntax.specs.Pieces.{later_names_bytes}
use Rattle.asl_syntax.proofs.printed_words.push_later_names.Given as goal

abbrev pub invariant-loop-name : goal.invariant-loop-name
invariant-loop-name l =
    l.out.items ++ later_names_bytes (drop l.name-index l.names) ≡ l.fn.out.items ++ later_names_bytes l.names
