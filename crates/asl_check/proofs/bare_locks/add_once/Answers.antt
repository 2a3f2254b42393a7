use Rattle.asl_check.proofs.Bare.{once_more}
use Rattle.asl_check.proofs.bare_locks.add_once.Goals as goal

pub returns : goal.returns
returns c = once_more c.args.locks.now.keys c.insert.new.self.keys c.args.lock c.in_ok-insert.ensures.keys
