use Rattle.std.proofs.Common.{ap, ◌∙◌}
use Rattle.std.proofs.lemmas.Result.{IfOk-weaker}
use Rattle.asl_command_line.specs.Building.{analyses_added, steps_added, texts_added}
use Rattle.asl_command_line.proofs.arguments.program.Goals as goal

pub returns : goal.returns
returns c =
    let with_analyses = c.in_ok-command-2.ensures.app_is ∙ ap analyses_added c.in_ok-command.ensures.app_is in
    let with_steps = c.in_ok-command-3.ensures.app_is ∙ ap steps_added with_analyses in
    IfOk-weaker c.with_texts.result _ _ (λ command built. record {
      app_is = built.app_is ∙ ap texts_added with_steps;
      local = built.local;
    }) c.with_texts.ensures
