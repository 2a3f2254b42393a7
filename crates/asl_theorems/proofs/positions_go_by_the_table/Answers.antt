use Rattle.std.proofs.Common.{take, sym, ◌∙◌}
use Rattle.asl_journal.proofs.ByTable.{end_is}
use Rattle.asl_journal.proofs.Runs.{prefix_is_journal}
use Rattle.asl_theorems.proofs.positions_go_by_the_table.Goals as goal

pub returns : goal.returns
returns c = record {
  some = λ image log k j. let front = prefix_is_journal image log.threads k log.events j in (front.end, front.leads);
  one = λ image log k state other j here there.
      let events = take k log.events in
      end_is image log.threads events state here ∙ sym (end_is image log.threads events other there);
}
