use Rattle.std.proofs.Common.{◌∙◌}
use Rattle.std.proofs.lemmas.Result.{IfOk-weaker}
use Rattle.clap.specs.Words.{app_of}
use Rattle.asl_command_line.proofs.Joined.{added, joined}
use Rattle.asl_command_line.proofs.arguments.with_steps.Goals as goal

pub returns : goal.returns
returns c =
    let with_asm = c.in_ok-command.ensures.app_is ∙ added (app_of c.args.command) c.in_ok-asm_command.ensures.app_is in
    let with_dis = c.in_ok-command-2.ensures.app_is ∙ joined with_asm c.in_ok-dis_command.ensures.app_is in
    let with_step = c.in_ok-command-3.ensures.app_is ∙ joined with_dis c.in_ok-step_command.ensures.app_is in
    let with_run = c.in_ok-command-4.ensures.app_is ∙ joined with_step c.in_ok-run_command.ensures.app_is in
    IfOk-weaker c.with_command-5.result _ _ (λ command built. record {
      app_is = built.app_is ∙ joined with_run c.in_ok-replay_command.ensures.app_is;
      local = built.local;
    }) c.with_command-5.ensures
