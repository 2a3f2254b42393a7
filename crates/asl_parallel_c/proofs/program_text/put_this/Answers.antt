use Rattle.std.proofs.Common.{arith}
use Rattle.asl_code.proofs.FitsLaws.{image_fits}
use Rattle.std.proofs.lemmas.Result.{on_ok_weaker}
use Rattle.asl_parallel_c.proofs.Parts.{three_parts}
use Rattle.asl_parallel_c.proofs.program_text.put_this.Goals as goal

pub returns-clause-written : goal.returns-clause-written
returns-clause-written g c =
    on_ok_weaker c.append.result
    (λ w. three_parts c.args.text.now.items c.fill.new.text.items c.put_callee.new.text.items c.append.new.text.items _ _ _ (rw (c.classes.ensures.classes, c.globals.ensures.globals) at c.in_ok-fill.ensures.filled) (rw c.start.ensures.start at c.in_ok-put_callee.ensures.written) w)
    c.append.ensures.appended

pub overflow_cast-globals : goal.overflow_cast-globals
overflow_cast-globals g c = let f = image_fits c.args.program.now c.globals.ensures.verified in rw c.globals.ensures.globals (omega (arith, f.few_globals))
