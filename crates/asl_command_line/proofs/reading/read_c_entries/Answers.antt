use Rattle.std.proofs.Common.{Bor, inl, inr, refl, ap, codes, subst}
use Rattle.clap.specs.Words.{Text, found_of, rows_of}
use Rattle.asl_command_line.specs.Usage.{a_name, invalid_text}
use Rattle.asl_command_line.specs.Reading.{IsEntriesFault}
use Rattle.asl_command_line.specs.Words.{words_at}
use Rattle.asl_command_line.proofs.Named.{misused}
use Rattle.asl_command_line.proofs.reading.read_c_entries.Goals as goal

pub returns-in-Err-NoName : goal.returns-in-Err-NoName
returns-in-Err-NoName c =
    let rows = rows_of (found_of c.args.values.now) in
    let err = subst (IsEntriesFault (words_at (codes "entry") rows)) c.in-Err-NoName.field-0-is c.in-Err-NoName.ensures.err in
    misused c.no_entry.result (codes "c") rows _ c.no_entry.ensures
    (inr (inr (inr (inr (inr (inl (inr refl, inr (record { word = c.in-Err-NoName.word.now; its = err.0; none = err.1; text_is = ap (λ (w : Bor Text). invalid_text w.now (codes "--entry <F>") a_name) c.in-Err-NoName.word-is }))))))))
