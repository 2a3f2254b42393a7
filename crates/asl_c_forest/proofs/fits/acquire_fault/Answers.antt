use Rattle.std.proofs.Common.{rules}
use Rattle.asl_c_forest.proofs.Laws.{classes_of}
use Rattle.asl_c_forest.proofs.fits.acquire_fault.Goals as goal

pub returns-else-not-holds_nothing-clause-fits : goal.returns-else-not-holds_nothing-clause-fits
returns-else-not-holds_nothing-clause-fits c _ = record {
  thread_there = search rules;
  nothing_held = search rules;
  distinct = search rules;
  modes = search rules;
  parents = search rules;
  classes_there = classes_of c.args.forest.now.classes c.args.asks.now (search rules);
}
