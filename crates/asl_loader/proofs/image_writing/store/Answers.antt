use Rattle.asl_loader.proofs.Stores.{verified_has}
use Rattle.asl_loader.proofs.image_writing.store.Goals as goal

pub put_image-requires-clause-has : goal.put_image-requires-clause-has
put_image-requires-clause-has c = rw c.image.ensures.image (verified_has c.args.program.now c.image.ensures.verified)
