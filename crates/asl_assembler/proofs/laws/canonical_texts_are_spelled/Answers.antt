use Rattle.asl_assembler.proofs.Canonicals.{canonical_spelled, spelled_fits, spelled_back}
use Rattle.asl_assembler.proofs.laws.canonical_texts_are_spelled.Goals as goal

pub returns-clause-spelled : goal.returns-clause-spelled
returns-clause-spelled c = canonical_spelled

pub returns-clause-fits : goal.returns-clause-fits
returns-clause-fits c = spelled_fits

pub returns-clause-back : goal.returns-clause-back
returns-clause-back c = spelled_back
