use Rattle.std.proofs.Common.{rules, append_assoc}
use Rattle.asl_diagnose.proofs.refusal_text.push_rest.Goals as goal

pub returns : goal.returns
returns c = (c.as_str.result.now, search (rules, append_assoc))
