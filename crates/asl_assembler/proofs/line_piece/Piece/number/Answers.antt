use Rattle.std.proofs.Common.{◌^◌, ◌<◌, ◌≤◌, refl, ◌∙◌, arith}
use Rattle.std.proofs.lemmas.Fmt.{length-decimal-le, decimal_nonempty}
use Rattle.asl_assembler.proofs.Digits.{digit_written, one_digit_less, first_written}
use Rattle.asl_assembler.proofs.line_piece.Piece.number.Goals as goal

pub loop-left-init : goal.loop-left-init
loop-left-init c = record {
  written = refl;
  room = omega (arith, length-decimal-le 10 c.args.number (omega arith) (omega arith) (omega arith));
}

pub byte-requires : goal.byte-requires
byte-requires c = omega (arith, c.requires, c.loop-left.invariant.room, decimal_nonempty c.loop-left.left (omega arith))

pub loop-left-preserved : goal.loop-left-preserved
loop-left-preserved c =
    let n = c.loop-left.left in
    let high : 10 ≤ n = c.loop-left-test.true in
    let fits : n < 2 ^ 64 = omega arith in
    record {
      written = rw c.byte.ensures (digit_written n c.loop-left.self high fits ∙ c.loop-left.invariant.written);
      room = rw c.byte.ensures (omega (arith, one_digit_less n high fits, c.loop-left.invariant.room));
    }

pub byte-requires-2 : goal.byte-requires-2
byte-requires-2 c = omega (arith, c.requires, c.loop-left.invariant.room, decimal_nonempty c.loop-left.left (omega arith))

pub returns-clause-written : goal.returns-clause-written
returns-clause-written c = c.byte-2.ensures ∙ first_written c.loop-left.left c.loop-left.self (omega arith) ∙ c.loop-left.invariant.written

pub returns-clause-short : goal.returns-clause-short
returns-clause-short c = rw c.byte-2.ensures (omega (arith, c.loop-left.invariant.room, decimal_nonempty c.loop-left.left (omega arith)))
