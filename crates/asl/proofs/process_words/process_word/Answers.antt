use Rattle.std.proofs.Common.{◌≡◌, take, refl, ◌∙◌, arith}
use Rattle.asl.specs.declared.process_words.WordsFault.TheVariants.{NotText}
use Rattle.asl.proofs.Lines.{told_no_text, written_back}
use Rattle.asl.proofs.process_words.process_word.Goals as goal

pub returns-in-Err-clause-err : goal.returns-in-Err-clause-err
returns-in-Err-clause-err g c =
    let same : c.truncate.new.self.items ≡ take c.in-Ok.count c.word.new.buffer = c.truncate.ensures.items ∙ written_back c.in-Ok.count c.resize.new.self.len c.word.new.buffer _ c.in-Ok.ensures.bound (omega (arith, c.in-Ok.ensures.bound, c.word.auto.buffer, c.as_mut_slice.ensures.len)) in
    told_no_text (g.L.CommandLine.known c.args.line.now) c.args.number c.in-Ok.count c.word.new.buffer _ NotText c.in-Ok.ensures.told same (refl, c.in-Err.ensures.err.1)
