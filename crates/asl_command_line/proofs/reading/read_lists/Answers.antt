use Rattle.std.proofs.Common.{inl, inr, refl, ap, codes}
use Rattle.clap.specs.Words.{Text, found_of, rows_of}
use Rattle.asl_command_line.specs.Usage.{a_length_or_auto, invalid_text}
use Rattle.asl_command_line.proofs.Named.{misused}
use Rattle.asl_command_line.proofs.reading.read_lists.Goals as goal

pub returns-in-Err : goal.returns-in-Err
returns-in-Err c =
    misused c.invalid.result (codes "lists") (rows_of (found_of c.args.values.now)) _ c.invalid.ensures
    (inr (inr (inr (inr (inr (inl (inl refl, inl (record { none = c.in-Err.ensures.err; text_is = ap (λ (v : Text). invalid_text v (codes "--k <K>") a_length_or_auto) c.in-Err.ensures.named }))))))))
