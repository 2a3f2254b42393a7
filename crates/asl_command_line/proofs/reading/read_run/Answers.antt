use Rattle.std.proofs.Common.{inl, inr, refl, ap, codes}
use Rattle.clap.specs.Words.{Text, found_of, rows_of}
use Rattle.asl_command_line.specs.Usage.{a_number, invalid_text}
use Rattle.asl_command_line.proofs.Named.{misused}
use Rattle.asl_command_line.proofs.reading.read_run.Goals as goal

pub returns-in-Err : goal.returns-in-Err
returns-in-Err c =
    misused c.invalid.result (codes "run") (rows_of (found_of c.args.values.now)) _ c.invalid.ensures
    (inr (inr (inl (refl, inl (record { none = c.in-Err.ensures.err; text_is = ap (λ (v : Text). invalid_text v (codes "--threads <N>") a_number) c.in-Err.ensures.named })))))

pub returns-in-Err-number_at : goal.returns-in-Err-number_at
returns-in-Err-number_at c =
    misused c.invalid-in-Err-number_at.result (codes "run") (rows_of (found_of c.args.values.now)) _ c.invalid-in-Err-number_at.ensures
    (inr (inr (inl (refl, inr (inl (record { none = c.in-Err-number_at.ensures.err; text_is = ap (λ (v : Text). invalid_text v (codes "--workers <W>") a_number) c.in-Err-number_at.ensures.named }))))))

pub returns-in-Err-number_at-2 : goal.returns-in-Err-number_at-2
returns-in-Err-number_at-2 c =
    misused c.invalid-in-Err-number_at-2.result (codes "run") (rows_of (found_of c.args.values.now)) _ c.invalid-in-Err-number_at-2.ensures
    (inr (inr (inl (refl, inr (inr (record { none = c.in-Err-number_at-2.ensures.err; text_is = ap (λ (v : Text). invalid_text v (codes "--limit <L>") a_number) c.in-Err-number_at-2.ensures.named }))))))
