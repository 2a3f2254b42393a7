use Rattle.std.proofs.Common.{◌≡◌, refl, ap, ◌<◌, [], length, drop, arith, length-drop}
use Rattle.std.proofs.lemmas.Bool.Decides.{nat_tests}
use Rattle.std.proofs.lemmas.List.{nil_from_length}
use Rattle.std.proofs.lemmas.List.Sums.{prefix_len-le-length}
use Rattle.std.specs.List.{prefix_len}
use Rattle.asl_assembler.specs.Words.{is_separator, words_of}
use Rattle.asl_assembler.specs.Reading.{is_word_byte}
use Rattle.asl_assembler.proofs.Split.{past_gap, first_word, word_some}
use Rattle.asl_assembler.proofs.line_words.next_word.Goals as goal

pub split_at-requires : goal.split_at-requires
split_at-requires c = omega (arith, prefix_len-le-length is_separator c.args.line.now)

pub split_at-requires-2 : goal.split_at-requires-2
split_at-requires-2 c = omega (arith, prefix_len-le-length is_word_byte c.split_at.result.1.now)

pub returns-then-is_empty-clause-words : goal.returns-then-is_empty-clause-words
returns-then-is_empty-clause-words c =
    let past = past_gap c.args.line.now in
    let empty : c.split_at.result.1.now ≡ [] = nil_from_length _ (grind (arith, nat_tests)) in
    let none : words_of [] ≡ [] = refl in
    cc

pub returns-clause-words : goal.returns-clause-words
returns-clause-words c =
    let line = c.args.line.now in
    let some : 0 < length c.split_at.result.1.now = grind (arith, nat_tests) in
    let cut : c.split_at.result.1.now ≡ drop (prefix_len is_separator line) line = cc in
    let first = first_word line (rw cut at some) in
    cc

pub returns-clause-shorter : goal.returns-clause-shorter
returns-clause-shorter c =
    let line = c.args.line.now in
    let rest = c.split_at.result.1.now in
    let some : 0 < length rest = grind (arith, nat_tests) in
    let cut : rest ≡ drop (prefix_len is_separator line) line = cc in
    let begun = word_some line (rw cut at some) in
    let long : 0 < prefix_len is_word_byte rest = rw cut begun in
    omega (arith, long, some, ap length cut, length-drop (prefix_len is_separator line) line, prefix_len-le-length is_word_byte rest)
