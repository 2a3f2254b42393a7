use Rattle.std.proofs.Common.{rules}
use Rattle.asl_show.proofs.replies.push_reply.Goals as goal

pub returns-in-Blocked : goal.returns-in-Blocked
returns-in-Blocked c = search rules
