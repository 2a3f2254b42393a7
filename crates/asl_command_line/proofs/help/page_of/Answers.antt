use Rattle.std.proofs.Common.{rules, string_bytes}
use Rattle.asl_command_line.proofs.Named.{page_first}
use Rattle.asl_command_line.proofs.help.page_of.Goals as goal

pub returns-else-is_empty : goal.returns-else-is_empty
returns-else-is_empty c =
    page_first string_bytes c.args.words.now c.index-words-0.result c.as_str.result.now _ (search rules) c.index-words-0.is c.as_str.ensures.value c.page_named.ensures
