use Rattle.asl_loader.proofs.Images.{image_is_one}
use Rattle.asl_loader.proofs.laws.image_and_bytes_are_one.Goals as goal

pub returns-clause-image : goal.returns-clause-image
returns-clause-image c = image_is_one
