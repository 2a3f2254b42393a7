use Rattle.asl_code.proofs.FitsLaws.{image_fits}
use Rattle.std.proofs.lemmas.Result.{on_ok_weaker}
use Rattle.asl_parallel_c.proofs.Parts.{seven_parts}
use Rattle.asl_parallel_c.proofs.program_text.put_program.Goals as goal

pub returns-clause-written : goal.returns-clause-written
returns-clause-written g c =
    on_ok_weaker c.put_main.result
    (λ w. seven_parts c.args.text.now.items c.put_front.new.text.items c.put_data.new.text.items c.put_prototypes.new.text.items c.append.new.text.items c.put_this.new.text.items c.put_functions.new.text.items c.put_main.new.text.items _ _ _ _ _ _ _ c.in_ok-put_front.ensures.written c.in_ok-put_data.ensures.written (rw c.functions.ensures.functions at c.in_ok-put_prototypes.ensures.written) c.in_ok-append.ensures.appended c.in_ok-put_this.ensures.written (rw (c.functions-2.ensures.functions, c.code.ensures.code) at c.in_ok-put_functions.ensures.written) w)
    c.put_main.ensures.written

pub put_prototypes-requires : goal.put_prototypes-requires
put_prototypes-requires g c = rw c.functions.ensures.functions (image_fits c.args.program.now c.functions.ensures.verified).few_functions

pub put_functions-requires-clause-few : goal.put_functions-requires-clause-few
put_functions-requires-clause-few g c = rw c.functions-2.ensures.functions (image_fits c.args.program.now c.functions.ensures.verified).few_functions

pub put_functions-requires-clause-short : goal.put_functions-requires-clause-short
put_functions-requires-clause-short g c = rw c.code.ensures.code (image_fits c.args.program.now c.functions.ensures.verified).few_instrs
