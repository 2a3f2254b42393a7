use Rattle.asl_lists.proofs.Plain.{warnings_plain}
use Rattle.asl_lists.proofs.document.push_behind.Goals as goal

pub push_list-requires : goal.push_list-requires
push_list-requires c = rw c.in_ok-warnings.ensures (warnings_plain c.args.facts.now)
