use Rattle.std.proofs.Common.{inl, inr, refl, codes, subst}
use Rattle.clap.specs.Words.{found_of, rows_of}
use Rattle.asl_command_line.specs.Externs.{IsExternsFault}
use Rattle.asl_command_line.specs.Words.{words_at}
use Rattle.asl_command_line.proofs.Externs.{told_alike}
use Rattle.asl_command_line.proofs.Named.{misused}
use Rattle.asl_command_line.proofs.reading.read_c_externs.Goals as goal

pub returns-in-Err-NoExtern : goal.returns-in-Err-NoExtern
returns-in-Err-NoExtern c =
    let rows = rows_of (found_of c.args.values.now) in
    let err = subst (IsExternsFault (words_at (codes "extern") rows)) c.in-Err-NoExtern.field-0-is c.in-Err-NoExtern.ensures.err in
    misused c.no_extern.result (codes "c") rows _ c.no_extern.ensures
    (inr (inr (inr (inr (inr (inr (inl (
      refl,
      record {
        word = c.in-Err-NoExtern.word.now;
        why = c.in-Err-NoExtern.why;
        wrong = err;
        text_is = told_alike c.in-Err-NoExtern.word-is c.in-Err-NoExtern.why-is;
      },
    ))))))))
