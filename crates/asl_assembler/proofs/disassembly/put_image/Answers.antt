use Rattle.std.proofs.lemmas.Result.{on_ok_weaker}
use Rattle.asl_assembler.proofs.Prints.{image_written}
use Rattle.asl_assembler.proofs.disassembly.put_image.Goals as goal

pub returns : goal.returns
returns c =
    on_ok_weaker c.put_lists.result
    (λ w. image_written c.args.image.now c.args.text.now.items c.put_head.new.text.items c.put_globals.new.text.items c.put_entry.new.text.items c.put_functions.new.text.items c.put_lists.new.text.items
    c.in_ok-put_head.ensures (rw c.as_slice.ensures at c.in_ok-put_globals.ensures) c.in_ok-put_entry.ensures (rw (c.as_slice-2.ensures, c.as_slice-3.ensures) at c.in_ok-put_functions.ensures) (rw c.as_slice-4.ensures at w))
    c.put_lists.ensures
