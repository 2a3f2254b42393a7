use Rattle.std.proofs.Common.{◌∙◌}
use Rattle.std.proofs.lemmas.Result.{IfOk-weaker}
use Rattle.clap.specs.Words.{app_of}
use Rattle.asl_command_line.proofs.Joined.{added, joined}
use Rattle.asl_command_line.proofs.arguments.with_analyses.Goals as goal

pub returns : goal.returns
returns c =
    let with_compile = c.in_ok-command.ensures.app_is ∙ added (app_of c.args.command) c.in_ok-compile_command.ensures.app_is in
    let with_check = c.in_ok-command-2.ensures.app_is ∙ joined with_compile c.in_ok-check_command.ensures.app_is in
    let with_map = c.in_ok-command-3.ensures.app_is ∙ joined with_check c.in_ok-map_command.ensures.app_is in
    let with_explain = c.in_ok-command-4.ensures.app_is ∙ joined with_map c.in_ok-explain_command.ensures.app_is in
    IfOk-weaker c.with_command-5.result _ _ (λ command built. record {
      app_is = built.app_is ∙ joined with_explain c.in_ok-diagnose_command.ensures.app_is;
      local = built.local;
    }) c.with_command-5.ensures
