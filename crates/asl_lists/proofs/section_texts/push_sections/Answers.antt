use Rattle.asl_lists.proofs.Written.{more_told}
use Rattle.asl_lists.proofs.section_texts.push_sections.Goals as goal

pub loop-section-preserved : goal.loop-section-preserved
loop-section-preserved c = record {
  told = more_told _ _ _ _ _ _ c.loop-section.invariant.told c.in_ok-push_section.ensures.section;
  search = c.in_ok-push_section.ensures.search;
}
