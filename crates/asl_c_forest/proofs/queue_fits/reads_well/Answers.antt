use Rattle.std.proofs.Common.{rules}
use Rattle.asl_c_forest.proofs.Laws.{classes_of}
use Rattle.asl_c_forest.proofs.queue_fits.reads_well.Goals as goal

pub returns-then-holds_nothing-clause-askable : goal.returns-then-holds_nothing-clause-askable
returns-then-holds_nothing-clause-askable c _ = record {
  rising = search rules;
  modes = search rules;
  parents = search rules;
  classes_there = classes_of c.args.queue.now.classes c.args.asks.now (search rules);
}
