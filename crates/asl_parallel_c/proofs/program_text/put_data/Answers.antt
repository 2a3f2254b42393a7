use Rattle.asl_code.proofs.FitsLaws.{image_fits}
use Rattle.std.proofs.lemmas.Result.{on_ok_weaker}
use Rattle.asl_parallel_c.proofs.Parts.{three_parts}
use Rattle.asl_parallel_c.proofs.program_text.put_data.Goals as goal

pub returns-clause-written : goal.returns-clause-written
returns-clause-written g c =
    on_ok_weaker c.put_table.result
    (λ w. three_parts c.args.text.now.items c.put_classes.new.text.items c.put_lists.new.text.items c.put_table.new.text.items _ _ _ (rw c.globals.ensures.globals at c.in_ok-put_classes.ensures.written) (rw c.lists.ensures.lists at c.in_ok-put_lists.ensures.written) (rw c.lists-2.ensures.lists at w))
    c.put_table.ensures.written

pub put_lists-requires : goal.put_lists-requires
put_lists-requires g c = rw c.lists.ensures.lists (image_fits c.args.program.now c.globals.ensures.verified).few_lists

pub put_table-requires : goal.put_table-requires
put_table-requires g c = rw c.lists-2.ensures.lists (image_fits c.args.program.now c.globals.ensures.verified).few_lists
