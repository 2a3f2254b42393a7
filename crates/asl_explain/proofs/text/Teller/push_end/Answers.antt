use Rattle.asl_explain.proofs.Piecing.{words_then}
use Rattle.asl_explain.proofs.text.Teller.push_end.Goals as goal

pub returns : goal.returns
returns c = words_then _ _ _ _ _ c.in_ok-push_end_line.ensures c.in_ok-push_ending.ensures
