use Rattle.std.proofs.Common.{take}
use Rattle.asl_explain.specs.Analysed.{read, AreListed}
use Rattle.asl_explain.specs.Known.{AreKnown}
use Rattle.asl_explain.proofs.making.all_listed.Given as goal

abbrev pub invariant-loop-lock : goal.invariant-loop-lock
invariant-loop-lock l = record {
  listed : AreListed (read l.analysis) l.number l.section (take l.lock-index l.list) l.listed_locks.items;
  known : AreKnown (read l.analysis) l.known;
}
