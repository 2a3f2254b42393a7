use Rattle.std.proofs.Common.{◌∙◌}
use Rattle.std.proofs.lemmas.Result.{IfOk-weaker}
use Rattle.clap.specs.Words.{app_of}
use Rattle.asl_command_line.proofs.Joined.{added, joined}
use Rattle.asl_command_line.proofs.arguments.with_texts.Goals as goal

pub returns : goal.returns
returns c =
    let with_log = c.in_ok-command.ensures.app_is ∙ added (app_of c.args.command) c.in_ok-log_command.ensures.app_is in
    let with_debug = c.in_ok-command-2.ensures.app_is ∙ joined with_log c.in_ok-debug_command.ensures.app_is in
    let with_c = c.in_ok-command-3.ensures.app_is ∙ joined with_debug c.in_ok-c_command.ensures.app_is in
    IfOk-weaker c.with_command-4.result _ _ (λ command built. record {
      app_is = built.app_is ∙ joined with_c c.in_ok-lists_command.ensures.app_is;
      local = built.local;
    }) c.with_command-4.ensures
