use Rattle.asl_assembler.specs.Canonical.{canonical_text}
use Rattle.asl_theorems.proofs.Printing.{image_text_fits}
use Rattle.asl_theorems.proofs.reading_undoes_writing.Goals as goal

pub returns-clause-images : goal.returns-clause-images
returns-clause-images c image other bytes others p =
    (λ q. c.image_and_bytes_are_one.ensures.image other image bytes q p, λ q. c.image_and_bytes_are_one.ensures.bytes image others bytes q p)

pub returns-clause-texts : goal.returns-clause-texts
returns-clause-texts c image other text p q = c.texts_spell_one_image.ensures.image text other image q p

pub returns-clause-journals : goal.returns-clause-journals
returns-clause-journals c log other bytes others p =
    (λ q. c.journal_and_bytes_are_one.ensures.journal other log bytes q p, λ q. c.journal_and_bytes_are_one.ensures.bytes log others bytes q p)

pub returns-clause-sources : goal.returns-clause-sources
returns-clause-sources c tree source p few = c.a_printed_tree_is_read_back.ensures.kept tree source p few

pub returns-clause-trees : goal.returns-clause-trees
returns-clause-trees c tree other source p q = c.a_text_has_one_tree.ensures.text other tree source q p

pub returns-clause-runs : goal.returns-clause-runs
returns-clause-runs c image other log another bytes others p =
    (λ q. c.run_and_bytes_are_one.ensures.run other image another log bytes q p, λ q. c.run_and_bytes_are_one.ensures.bytes image log others bytes q p)

pub returns-clause-canonical : goal.returns-clause-canonical
returns-clause-canonical c image other text v p =
    (c.canonical_texts_are_spelled.ensures.spelled image v (c.canonical_texts_are_spelled.ensures.fits image text v p), λ q. c.canonical_texts_are_spelled.ensures.back image other text v p q)

pub returns-clause-disassembled : goal.returns-clause-disassembled
returns-clause-disassembled c image other bytes v p =
    let spelled = c.canonical_texts_are_spelled.ensures.spelled image v (image_text_fits image p.fits) in
    (spelled, λ q. c.texts_spell_one_image.ensures.image (canonical_text image) other image q spelled)
