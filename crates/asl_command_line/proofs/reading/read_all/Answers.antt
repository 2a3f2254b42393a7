use Rattle.std.proofs.Common.{map, string_bytes}
use Rattle.std.proofs.lemmas.Result.{IfOk-weaker}
use Rattle.clap.specs.Words.{app_of, kind_of, subcommand_rows_of}
use Rattle.asl_command_line.proofs.Asked.{taken_words, refused_words}
use Rattle.asl_command_line.proofs.reading.read_all.Goals as goal

pub returns-in-Ok : goal.returns-in-Ok
returns-in-Ok c =
    let parse = c.in-Ok.ensures in
    IfOk-weaker c.read_matches.result _ _ (λ i taken.
    taken_words (app_of c.in_ok-program.field-0) (map string_bytes c.args.words.now) (subcommand_rows_of c.in-Ok.matches) i
    c.in_ok-program.ensures.app_is parse.kinds (λ simple. (parse.matches simple).1) taken) c.read_matches.ensures

pub returns-in-Err : goal.returns-in-Err
returns-in-Err c =
    IfOk-weaker c.refused.result _ _ (λ i refusal.
    refused_words (app_of c.in_ok-program.field-0) (map string_bytes c.args.words.now) (kind_of c.in-Err.error) i
    c.in_ok-program.ensures.app_is c.in-Err.ensures.kinds refusal.0 refusal.1) c.refused.ensures
