use Rattle.asl_explain.proofs.Piecing.{tells_then, tells_words}
use Rattle.asl_explain.proofs.text.Teller.push_told_ending.Goals as goal

pub returns : goal.returns
returns c = tells_then _ _ _ _ _ c.in_ok-push_chain.ensures (tells_words _ _ _ c.in_ok-push_new.ensures)
