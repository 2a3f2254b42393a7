use Rattle.std.proofs.Common.{inl, refl, ap, codes}
use Rattle.clap.specs.Words.{Text, found_of, rows_of}
use Rattle.asl_command_line.specs.Usage.{a_number, invalid_text}
use Rattle.asl_command_line.proofs.Named.{misused}
use Rattle.asl_command_line.proofs.reading.read_step.Goals as goal

pub returns-in-Err : goal.returns-in-Err
returns-in-Err c =
    misused c.invalid.result (codes "step") (rows_of (found_of c.args.values.now)) _ c.invalid.ensures
    (inl (refl, inl (record { none = c.in-Err.ensures.err; text_is = ap (λ (v : Text). invalid_text v (codes "--threads <N>") a_number) c.in-Err.ensures.named })))
