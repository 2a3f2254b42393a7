use Rattle.asl_explain.proofs.Walking.{from_more}
use Rattle.asl_explain.proofs.walk.add_next.Goals as goal

pub returns : goal.returns
returns c = λ l pc old flows from. from_more l pc old c.args.waiting.now.items c.push.new.self.items c.args.next c.in_ok-push.ensures.items flows from
