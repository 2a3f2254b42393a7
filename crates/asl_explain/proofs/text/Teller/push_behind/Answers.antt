use Rattle.asl_explain.proofs.Piecing.{words_then, tells_then, tells_words}
use Rattle.asl_explain.proofs.text.Teller.push_behind.Goals as goal

pub returns : goal.returns
returns c = words_then _ _ _ _ _ c.in_ok-push_line.ensures (tells_then _ _ _ _ _ c.in_ok-push_note.ensures (tells_words _ _ _ c.in_ok-push_str.ensures.bytes))
