use Rattle.std.proofs.Common.{rules}
use Rattle.asl_c_forest.proofs.Laws.{classes_of}
use Rattle.asl_c_forest.proofs.queue_fits.queue_fault.Goals as goal

pub returns-else-not-is_absent-clause-askable : goal.returns-else-not-is_absent-clause-askable
returns-else-not-is_absent-clause-askable c _ = record {
  rising = search rules;
  modes = search rules;
  parents = search rules;
  classes_there = classes_of c.args.queue.now.classes c.args.asks.now (search rules);
}
