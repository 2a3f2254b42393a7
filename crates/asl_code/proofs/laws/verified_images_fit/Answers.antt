use Rattle.asl_code.proofs.FitsBack.{verified_from_facts}
use Rattle.asl_code.proofs.FitsLaws.{image_fits, instr_there, place_lies}
use Rattle.asl_code.proofs.laws.verified_images_fit.Goals as goal

pub returns-clause-facts : goal.returns-clause-facts
returns-clause-facts c = image_fits

pub returns-clause-verified : goal.returns-clause-verified
returns-clause-verified c = verified_from_facts

pub returns-clause-lies : goal.returns-clause-lies
returns-clause-lies c = λ i pc v lt. place_lies i v pc lt

pub returns-clause-instr : goal.returns-clause-instr
returns-clause-instr c = λ i n pc f v at. instr_there i v n pc f at
