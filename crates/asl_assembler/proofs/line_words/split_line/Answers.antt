use Rattle.std.proofs.Common.{◌≡◌, refl, ◌-◌, ◌≤◌, [], length, drop, arith, length-drop}
use Rattle.std.proofs.lemmas.List.{take_all, nil_from_length}
use Rattle.std.proofs.lemmas.List.Sums.{prefix_len-le-length}
use Rattle.asl_assembler.specs.Reading.{is_line_byte}
use Rattle.asl_assembler.proofs.Split.{first_line}
use Rattle.asl_assembler.proofs.line_words.split_line.Goals as goal

pub split_at-requires : goal.split_at-requires
split_at-requires c = omega (arith, prefix_len-le-length is_line_byte c.args.text.now)

pub returns-in-empty-clause-lines : goal.returns-in-empty-clause-lines
returns-in-empty-clause-lines c =
    let rest = c.split_at.result.1.now in
    let first = first_line c.args.text.now c.requires in
    let none : rest ≡ [] = nil_from_length rest (omega arith) in
    let after : drop 1 rest ≡ [] = rw none refl in
    cc

pub returns-in-len1-up-clause-lines : goal.returns-in-len1-up-clause-lines
returns-in-len1-up-clause-lines c =
    let first = first_line c.args.text.now c.requires in
    let rest = c.split_at.result.1.now in
    let fits : length (drop 1 rest) ≤ length rest - 1 = rw length-drop (omega arith) in
    let whole = take_all (length rest - 1) (drop 1 rest) fits in
    cc
