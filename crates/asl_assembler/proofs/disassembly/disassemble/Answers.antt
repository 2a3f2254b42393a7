use Rattle.std.proofs.Common.{◌≡◌, ℕ, List, ◌++◌, ◌∙◌, ap, sym, subst, arith}
use Rattle.asl_code.proofs.FitsLaws.{image_fits}
use Rattle.asl_assembler.specs.Text.{Spells}
use Rattle.asl_assembler.specs.Canonical.{canonical_text}
use Rattle.asl_assembler.proofs.Canonicals.{canonical_spelled}
use Rattle.asl_assembler.proofs.disassembly.disassemble.Goals as goal

pub put_image-requires-clause-version : goal.put_image-requires-clause-version
put_image-requires-clause-version c = rw c.image.ensures.image (image_fits c.args.program.now c.image.ensures.verified).version

pub put_image-requires-clause-classes : goal.put_image-requires-clause-classes
put_image-requires-clause-classes c = rw c.image.ensures.image (let f = image_fits c.args.program.now c.image.ensures.verified in omega (arith, f.few_classes))

pub returns-clause-spelled : goal.returns-clause-spelled
returns-clause-spelled c =
    let i = c.args.program.now in
    let w = rw c.image.ensures.image at c.in_ok-put_image.ensures in
    let all : c.put_image.new.text.items ≡ canonical_text i = w.added ∙ ap (λ (t : List ℕ). t ++ canonical_text i) c.in_ok-text.ensures.items in
    subst (λ (t : List ℕ). Spells t i) (sym all) (canonical_spelled i c.image.ensures.verified w.fits)
