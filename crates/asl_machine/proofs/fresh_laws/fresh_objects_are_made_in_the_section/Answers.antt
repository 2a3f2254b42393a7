use Rattle.asl_code.proofs.FitsLaws.{image_fits}
use Rattle.asl_machine.proofs.MadeBy.{made_is_fresh, fresh_was_made}
use Rattle.asl_machine.specs.Run.{start_of}
use Rattle.asl_machine.proofs.fresh_laws.fresh_objects_are_made_in_the_section.Goals as goal

pub returns : goal.returns
returns c = record {
  fresh = λ image count schedule replies s t object v runs. (
    (λ f. fresh_was_made image count schedule replies s t object (image_fits image v) runs f),
    (λ h. made_is_fresh image (start_of image count) schedule s t object h.0 h.1),
  );
}
