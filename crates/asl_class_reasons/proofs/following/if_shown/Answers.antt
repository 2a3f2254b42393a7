use Rattle.std.proofs.Common.{arith}
use Rattle.asl_class_reasons.proofs.Followed.{reasoned_later}
use Rattle.asl_class_reasons.proofs.following.if_shown.Goals as goal

pub returns-then-shown-before : goal.returns-then-shown-before
returns-then-shown-before c = λ l reasons r. reasoned_later l reasons c.args.shown.before c.args.before c.args.shown.step (let t = c.if-shown-before.true in omega arith) r
