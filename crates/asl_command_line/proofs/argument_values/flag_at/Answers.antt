use Rattle.std.proofs.Common.{◌∙◌}
use Rattle.clap.specs.Words.{found_of}
use Rattle.clap.proofs.WalkLemmas.{one_text-rows}
use Rattle.asl_command_line.proofs.argument_values.flag_at.Goals as goal

pub returns : goal.returns
returns c =
    let rows = one_text-rows (found_of c.args.values.now) c.args.name.now in
    record {
      yes = λ e. c.get_flag.ensures.value (rows ∙ e);
      no = λ e. c.get_flag.ensures.other (rows ∙ e);
      none = λ e. c.get_flag.ensures.none (rows ∙ e);
    }
