use Rattle.std.proofs.Common.{◌≡◌, ◌<◌, ◌∙◌, arith, false, sym}
use Rattle.asl_syntax.specs.Heard.{declares}
use Rattle.asl_syntax.specs.WordView.{word_of, words_left}
use Rattle.asl_syntax.proofs.Scanned.{one_fewer}
use Rattle.asl_syntax.proofs.declared_words.is_declared.Goals as goal

pub reading-preserved : goal.reading-preserved
reading-preserved c =
    let some : 0 < c.reading.left = omega (arith, c.reading-test.true) in
    let other : declares c.args.space (word_of c.in-Some.word) c.args.name.now ≡ false = sym c.declares.ensures ∙ c.if-declares.false in
    one_fewer c.args.space c.reading.left (words_left c.reading.words) (word_of c.in-Some.word) (words_left c.next.new.self) c.args.name.now _ some c.in-Some.ensures.0 other c.reading.invariant
