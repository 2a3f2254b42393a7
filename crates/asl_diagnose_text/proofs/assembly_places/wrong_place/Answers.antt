use Rattle.std.proofs.Common.{inl, inr, refl}
use Rattle.asl_diagnose_text.proofs.Instructed.{too_early}
use Rattle.asl_diagnose_text.proofs.assembly_places.wrong_place.Goals as goal

pub returns-in-Some : goal.returns-in-Some
returns-in-Some c = inl (record { start = c.in-Some.start; line = c.in-Some.ensures.some; blanks = c.front.ensures })

pub returns-in-None : goal.returns-in-None
returns-in-None c = inr (too_early c.args.text.now c.args.number c.requires c.in-None.ensures.none, refl)
