use Rattle.std.proofs.Common.{rules, ℕ, map, subst, inl, inr, ◌∙◌, arith}
use Rattle.asl_runner.specs.History.{IsAsked}
use Rattle.asl_tool.proofs.commands.run.run_journal.Goals as goal

pub returns-in-Ok-clause-asked : goal.returns-in-Ok-clause-asked
returns-in-Ok-clause-asked g c =
    subst (λ (n : ℕ). IsAsked c.args.program.now c.args.team.threads c.args.team.workers n) c.from-limit.ensures c.in-Ok.ensures.asked

pub returns-in-Ok-clause-ok : goal.returns-in-Ok-clause-ok
returns-in-Ok-clause-ok g c =
    let told = c.in-Ok.ensures in
    record {
      threads_are = told.threads;
      journal = told.history.journal;
      receipts = map (λ mine. mine.items) c.in-Ok.report.receipts.items;
      dealt = told.history.dealt;
      running = told.running;
      short = omega (arith, told.tickets, told.limit, c.from-limit.ensures);
      state = c.in-Ok.report.machine.state;
      leads = told.leads;
      end = elim told.end [ inl ended ↦ inl ended | inr all ↦ inr (told.tickets ∙ all ∙ c.from-limit.ensures) ];
    }

pub returns-in-Err-clause-err : goal.returns-in-Err-clause-err
returns-in-Err-clause-err g c = search rules
