use Rattle.asl_assembler.specs.Words.{lines_of}
use Rattle.asl_assembler.proofs.Texts.{one_image, one_line, not_both}
use Rattle.asl_assembler.proofs.laws.texts_spell_one_image.Goals as goal

pub returns-clause-image : goal.returns-clause-image
returns-clause-image c = one_image

pub returns-clause-line : goal.returns-clause-line
returns-clause-line c = λ text n m. one_line (lines_of text) n m

pub returns-clause-either : goal.returns-clause-either
returns-clause-either c = λ text image n. not_both (lines_of text) image n
