use Rattle.std.proofs.Common.{refl}
use Rattle.asl_diagnose_text.proofs.Mains.{main_found, no_main}
use Rattle.asl_diagnose_text.proofs.syntax_places.main_place.Goals as goal

pub returns-in-Some : goal.returns-in-Some
returns-in-Some c = main_found c.args.source.now c.in-Some.at c.in-Some.ensures

pub returns-in-None : goal.returns-in-None
returns-in-None c = no_main c.args.source.now _ c.in-None.ensures refl
