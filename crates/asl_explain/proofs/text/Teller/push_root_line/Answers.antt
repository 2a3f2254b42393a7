use Rattle.asl_explain.proofs.Piecing.{three}
use Rattle.asl_explain.proofs.text.Teller.push_root_line.Goals as goal

pub returns : goal.returns
returns c = three _ _ _ _ _ _ _ c.in_ok-push_str.ensures.bytes c.in_ok-push_spelled.ensures c.in_ok-push_str-2.ensures.bytes
