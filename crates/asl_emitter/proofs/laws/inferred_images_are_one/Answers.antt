use Rattle.asl_emitter.proofs.Alike.{one_image}
use Rattle.asl_emitter.proofs.laws.inferred_images_are_one.Goals as goal

pub returns : goal.returns
returns c = one_image
