use Rattle.std.proofs.Common.{refl}
use Rattle.asl_parallel_c.proofs.Templates.{place_filled, byte_filled}
use Rattle.asl_parallel_c.proofs.template.put_next.Goals as goal

pub returns-then-byte-eq64-clause-written : goal.returns-then-byte-eq64-clause-written
returns-then-byte-eq64-clause-written g c = λ bytes. rw c.after_first.ensures (place_filled c.args.text.now.items _ c.put_first.new.text.items c.args.byte bytes c.args.numbers.now c.if-byte-eq64.true refl c.in_ok-put_first.ensures.written)

pub returns-clause-written : goal.returns-clause-written
returns-clause-written g c = λ bytes. byte_filled c.args.text.now.items c.append.new.text.items c.args.byte bytes c.args.numbers.now c.if-byte-eq64.false c.in_ok-append.ensures.appended
