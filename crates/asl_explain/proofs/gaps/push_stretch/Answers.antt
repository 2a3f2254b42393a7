use Rattle.std.proofs.Common.{◌++◌, string_bytes, refl}
use Rattle.std.specs.List.{slice_range}
use Rattle.asl_class_text.specs.Texts.{one_line}
use Rattle.asl_explain.proofs.Blanks.{over_gap}
use Rattle.asl_explain.proofs.gaps.push_stretch.Goals as goal

pub loop-number-preserved : goal.loop-number-preserved
loop-number-preserved c =
    let source = c.args.source.now in
    let l = c.loop-number in
    let over = over_gap source c.args.gaps.now l.number (record { from = 0; to = 0 }) _ l.was_blank l.at c.args.to (string_bytes c.args.text.now ++ one_line (slice_range source c.args.from c.args.to)) (string_bytes l.text) (string_bytes c.push_words.new.text)
    c.loop-number-test.true refl c.requires.gaps c.if-gap-at.false c.if-to-gap.false c.requires.within c.in_ok-push_words.ensures l.invariant.words in
    record { order = over.0; words = over.1 }
