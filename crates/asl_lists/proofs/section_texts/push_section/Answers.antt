use Rattle.asl_lists.proofs.Plain.{section_plain}
use Rattle.asl_lists.proofs.section_texts.push_section.Goals as goal

pub push_value-requires : goal.push_value-requires
push_value-requires c = rw c.in_ok-value.ensures (section_plain c.args.facts.now c.section_area-area.result c.as_slice.result.now)
