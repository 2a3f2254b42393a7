use Rattle.std.proofs.Common.{string_bytes}
use Rattle.asl_tool.proofs.Diagnosing.{told_with}
use Rattle.asl_tool.proofs.commands.diagnose.told_whole.Goals as goal

pub returns : goal.returns
returns c =
    told_with c.args.input.now c.args.k (string_bytes c.in_ok-diagnosis.diagnosis) (string_bytes c.in_ok-warnings.warnings) (string_bytes c.in_ok-text.text)
    c.in_ok-diagnosis.ensures.told c.in_ok-warnings.ensures (rw (c.as_str.ensures.value, c.as_str-2.ensures.value) at c.in_ok-text.ensures)
