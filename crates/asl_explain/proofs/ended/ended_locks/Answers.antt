use Rattle.asl_explain.proofs.Dropping.{none_ended}
use Rattle.asl_explain.proofs.ended.ended_locks.Goals as goal

pub returns-in-None : goal.returns-in-None
returns-in-None c = none_ended c.args.analysis.now c.args.number c.args.section c.requires.there c.requires.analysed c.in-None.ensures _ c.new.ensures.items
