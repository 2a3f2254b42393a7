use Rattle.std.proofs.Common.{codes, string_bytes}
use Rattle.asl_show.specs.Replies.{access_text}
use Rattle.asl_show.proofs.Texts.{grown}
use Rattle.asl_show.proofs.replies.push_fault.Goals as goal

pub returns-in_ok-push_str-in-Unprotected : goal.returns-in_ok-push_str-in-Unprotected
returns-in_ok-push_str-in-Unprotected c =
    rw c.in-Unprotected.is
    (grown c.push_access.result (string_bytes c.args.text.now) (string_bytes c.push_str-in-Unprotected.new.self) (string_bytes c.push_access.new.text)
    (codes "Unprotected ") (access_text c.in-Unprotected.cell c.in-Unprotected.effect) c.in_ok-push_str-in-Unprotected.ensures.bytes c.push_access.ensures)
