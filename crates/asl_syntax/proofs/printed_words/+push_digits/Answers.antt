use Rattle.std.proofs.Common.{◌+◌, ◌/◌, ◌%◌, [], ◌∷◌, append_assoc, arith}
use Rattle.asl_syntax.specs.Pieces.{digit_bytes}
use Rattle.asl_syntax.proofs.Digits.{digits_more}
use Rattle.asl_syntax.proofs.printed_words.+push_digits.Goals as goal

pub returns-in_ok-push : goal.returns-in_ok-push
returns-in_ok-push t c =
    let e = digits_more c.args.number (omega arith) in
    let a = append_assoc c.args.out.now.items (digit_bytes (c.args.number / 10)) ((c.args.number % 10 + 48) ∷ []) in
    cc (c.in_ok-push.ensures.items, c.in_ok-push_digits.ensures)
