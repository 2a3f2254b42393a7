use Rattle.asl_diagnose_text.proofs.Instructed.{none_missing}
use Rattle.asl_diagnose_text.proofs.assembly_places.row_front.Goals as goal

pub returns : goal.returns
returns c = record { start = c.in-Some.start; line = c.in-Some.ensures.some; blanks = c.front.ensures }

pub unreachable-requires : goal.unreachable-requires
unreachable-requires c = none_missing c.args.text.now c.args.number c.requires.some c.requires.there c.in-None.ensures.none
