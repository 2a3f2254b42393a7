use Rattle.std.proofs.Common.{arith, string_bytes}
use Rattle.std.proofs.lemmas.List.{length-map}
use Rattle.asl_command_line.proofs.ReadApart.{first_is, plain_before}
use Rattle.asl_command_line.proofs.apart.front_of.Goals as goal

pub loop-from-preserved : goal.loop-from-preserved
loop-from-preserved c =
    let inv = c.loop-from.invariant in (
      omega (arith, c.loop-from-test.true),
      omega (arith, inv.1),
      plain_before string_bytes c.args.words.now c.loop-from.from c.index-words-from.result c.as_str-in-loop-from.result.now c.loop-from-test.true inv.1 c.index-words-from.is
          c.as_str-in-loop-from.ensures.value c.if-is_plain.ensures inv.2,
    )

pub returns-then-words-from-gt2 : goal.returns-then-words-from-gt2
returns-then-words-from-gt2 c =
    let inv = c.loop-from.invariant in
    record {
      long = omega (arith, inv.0);
      within = omega (arith, inv.1, c.if-words-from-gt2.true, length-map c.args.words.now string_bytes);
      step = first_is string_bytes c.args.words.now c.index-words-0.result c.as_str.result.now (omega (arith, inv.0, inv.1)) c.index-words-0.is c.as_str.ensures.value c.if-ne.ensures;
      plain = λ i word le at. inv.2 i word (omega (arith, le)) at;
    }
