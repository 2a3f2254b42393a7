use Rattle.std.proofs.lemmas.Int.{to_z-of_z}
use Rattle.std.specs.Int.{w32}
use Rattle.std.specs.Fmt.{signed_decimal}
use Rattle.std.proofs.lemmas.Result.{on_ok_weaker}
use Rattle.asl_parallel_c.proofs.Parts.{three_parts}
use Rattle.asl_parallel_c.proofs.call.put_integer.Goals as goal

pub returns-clause-written : goal.returns-clause-written
returns-clause-written g c =
    on_ok_weaker c.append-2.result
    (λ w. three_parts c.args.text.now.items c.fill.new.text.items c.append.new.text.items c.append-2.new.text.items _ (signed_decimal c.args.value) _
    (rw c.from.ensures at c.in_ok-fill.ensures.filled) (rw (c.as_bytes.ensures.value, c.format.ensures.text, to_z-of_z w32 c.args.value c.ranges.value) at c.in_ok-append.ensures.appended) w)
    c.append-2.ensures.appended
