-- the names so far
use Rattle.std.proofs.Common.{◌≡◌, true, map, take, string_bytes}
use Rattle.std.specs.List.{All}
use Rattle.clap.specs.Walk.{texts}
use Rattle.asl_command_line.specs.Names.{is_name}
use Rattle.asl_command_line.proofs.entry_words.entries.Given as goal

abbrev pub invariant-loop-word : goal.invariant-loop-word
invariant-loop-word l = (map string_bytes l.entries.items ≡ texts (take l.word-index l.words)) × All (λ entry. is_name entry ≡ true) (map string_bytes l.entries.items)
