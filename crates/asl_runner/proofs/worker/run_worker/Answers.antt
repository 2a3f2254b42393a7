use Rattle.asl_runner.proofs.Workers.{left_refused}
use Rattle.asl_runner.proofs.worker.run_worker.Goals as goal

pub returns-in-Refused : goal.returns-in-Refused
returns-in-Refused g c =
    let left = c.left-in-Refused.ensures in
    rw (left.seat, left.receipts) (left_refused c.args.turns.now c.args.post.count c.args.post.workers c.args.post.worker c.turn.new.at.seat c.turn.new.at.receipts.items c.left-in-Refused.result.refused left.refused c.in-Refused.ensures)
