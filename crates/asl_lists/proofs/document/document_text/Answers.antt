use Rattle.asl_lists.proofs.Written.{told}
use Rattle.asl_lists.proofs.document.document_text.Goals as goal

pub returns : goal.returns
returns c = told _ _ _ _ _ _ _ _ c.new-text.ensures.bytes c.in_ok-push_before.ensures c.in_ok-push_sections.ensures c.in_ok-push_behind.ensures
