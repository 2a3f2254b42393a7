use Rattle.std.proofs.Common.{◌∙◌, ap, sym}
use Rattle.asl_lists.specs.Document.{document_text}
use Rattle.asl_lists.proofs.Texts.{said}
use Rattle.asl_lists.proofs.listed_source.told.Goals as goal

pub returns : goal.returns
returns c = said c.document_text.result _ _ (λ t h. record {
  facts = c.in_ok-facts.facts;
  are_facts = c.in_ok-facts.ensures;
  explanation = (c.requires.explains h.sections h.are).0;
  explains = (c.requires.explains h.sections h.are).1;
  tells = h.tells ∙ ap (document_text c.in_ok-facts.facts c.args.found.now.k c.args.driver.now) (sym (c.requires.explains h.sections h.are).2);
}) c.document_text.ensures
