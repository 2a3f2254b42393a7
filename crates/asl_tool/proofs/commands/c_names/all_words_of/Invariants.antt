-- what is made and what is left are all
use Rattle.std.proofs.Common.{◌≡◌, ◌++◌, drop, map, string_bytes}
use Rattle.std.specs.Prelude.{encode_utf8_all}
use Rattle.asl_tool.proofs.commands.c_names.all_words_of.Given as goal

abbrev pub invariant-loop-name : goal.invariant-loop-name
invariant-loop-name l = map string_bytes l.texts.items ++ map encode_utf8_all (drop l.name-index l.names) ≡ map encode_utf8_all l.names
