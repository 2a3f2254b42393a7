use Rattle.std.proofs.Common.{length}
use Rattle.asl_tool.proofs.Writing.{Wrote, Kept}
use Rattle.asl_tool.proofs.streams.write_whole.Given as goal

abbrev pub invariant-loop-rest : goal.invariant-loop-rest
invariant-loop-rest g l = record {
  wrote : Wrote (g.W.Write.contents l.initial.writer) (g.W.Write.contents l.writer) l.bytes l.rest;
  kept : Kept (g.W.ByteSink.room l.initial.writer) (g.W.ByteSink.room l.writer) l.bytes l.rest;
}

abbrev pub decreases-loop-rest : goal.decreases-loop-rest
decreases-loop-rest g l = length l.rest
