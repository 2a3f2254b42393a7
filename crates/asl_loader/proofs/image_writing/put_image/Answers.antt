use Rattle.std.proofs.lemmas.Result.{on_ok_weaker}
use Rattle.asl_loader.proofs.Stores.{image_written}
use Rattle.asl_loader.proofs.image_writing.put_image.Goals as goal

pub returns : goal.returns
returns c =
    on_ok_weaker c.put_lists.result
    (λ w. image_written c.args.image.now c.extend_from_slice.new.self.items c.put_two.new.out.items c.put_two-2.new.out.items c.put_globals.new.out.items c.put_functions.new.out.items c.put_two-3.new.out.items c.put_code.new.out.items c.put_lists.new.out.items
    c.requires.has.version (rw c.requires.empty at c.in_ok-extend_from_slice.ensures.items) c.in_ok-put_two.ensures.added c.in_ok-put_two-2.ensures.added
    (rw c.as_slice.ensures at c.in_ok-put_globals.ensures) (rw c.as_slice-2.ensures at c.in_ok-put_functions.ensures) c.in_ok-put_two-3.ensures.added (rw c.as_slice-3.ensures at c.in_ok-put_code.ensures) (rw c.as_slice-4.ensures at w))
    c.put_lists.ensures
