-- the pairs so far, and nothing is wrong with them; what their words name is held
use Rattle.std.proofs.Common.{◌≡◌, map, take, string_bytes}
use Rattle.clap.specs.Walk.{texts}
use Rattle.asl_command_line.specs.declared.command.Replacement.{Replacement}
use Rattle.asl_command_line.specs.Externs.{c_name_in, function_in}
use Rattle.asl_command_line.specs.HeldTexts.{Hold}
use Rattle.asl_command_line.proofs.Externs.{AreRightTo}
use Rattle.asl_command_line.proofs.extern_words.externs.Given as goal

abbrev pub invariant-loop-word : goal.invariant-loop-word
invariant-loop-word l = record {
  right : AreRightTo l.word-index (texts l.words);
  functions : map (λ (e : Replacement). string_bytes e.function) l.pairs.items ≡ map function_in (texts (take l.word-index l.words));
  names : map (λ (e : Replacement). string_bytes e.name) l.pairs.items ≡ map c_name_in (texts (take l.word-index l.words));
  held_functions : Hold l.functions (map function_in (texts (take l.word-index l.words)));
  held_names : Hold l.names (map c_name_in (texts (take l.word-index l.words)));
}
