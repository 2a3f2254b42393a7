use Rattle.std.proofs.Common.{◌++◌, ◌∙◌, append_assoc, codes, sym}
use Rattle.asl_command_line.specs.Usage.{help_is_there}
use Rattle.asl_command_line.proofs.argument_values.wrong_usage.Goals as goal

pub returns : goal.returns
returns c = c.in_ok-text.ensures.ok ∙ sym (append_assoc (codes "error: " ++ c.args.why.now) (codes "\n\n") help_is_there)
