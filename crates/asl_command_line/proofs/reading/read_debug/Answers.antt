use Rattle.std.proofs.Common.{inl, inr, refl, codes, subst}
use Rattle.clap.specs.Words.{found_of, rows_of}
use Rattle.asl_command_line.specs.Reading.{IsDebugWordsFault, IsNamedWord}
use Rattle.asl_command_line.specs.Words.{words_at}
use Rattle.asl_command_line.proofs.Named.{misused}
use Rattle.asl_command_line.proofs.reading.read_debug.Goals as goal

pub returns-in-Err-NoWord : goal.returns-in-Err-NoWord
returns-in-Err-NoWord c =
    let rows = rows_of (found_of c.args.values.now) in
    let err = subst (IsDebugWordsFault (words_at (codes "words") rows)) c.in-Err-NoWord.field-0-is c.in-Err-NoWord.ensures.err in
    let named = subst (IsNamedWord (words_at (codes "words") rows)) c.in-Err-NoWord.field-0-is c.in-Err-NoWord.ensures.named in
    misused c.invalid.result (codes "debug") rows _ c.invalid.ensures (inr (inr (inr (inl (refl, err, inl (c.in-Err-NoWord.word.now, named, refl))))))

pub returns-in-Err-NoNumber : goal.returns-in-Err-NoNumber
returns-in-Err-NoNumber c =
    let rows = rows_of (found_of c.args.values.now) in
    let err = subst (IsDebugWordsFault (words_at (codes "words") rows)) c.in-Err-NoNumber.field-0-is c.in-Err-NoNumber.ensures.err in
    let named = subst (IsNamedWord (words_at (codes "words") rows)) c.in-Err-NoNumber.field-0-is c.in-Err-NoNumber.ensures.named in
    misused c.invalid-in-Err-NoNumber.result (codes "debug") rows _ c.invalid-in-Err-NoNumber.ensures (inr (inr (inr (inl (refl, err, inr (inl (c.in-Err-NoNumber.word.now, named, refl)))))))

pub returns-in-Err-NumberMissing : goal.returns-in-Err-NumberMissing
returns-in-Err-NumberMissing c =
    let rows = rows_of (found_of c.args.values.now) in
    let err = subst (IsDebugWordsFault (words_at (codes "words") rows)) c.in-Err-NumberMissing.field-0-is c.in-Err-NumberMissing.ensures.err in
    let named = subst (IsNamedWord (words_at (codes "words") rows)) c.in-Err-NumberMissing.field-0-is c.in-Err-NumberMissing.ensures.named in
    misused c.wrong_usage.result (codes "debug") rows _ c.wrong_usage.ensures (inr (inr (inr (inl (refl, err, inr (inr (named, refl)))))))
