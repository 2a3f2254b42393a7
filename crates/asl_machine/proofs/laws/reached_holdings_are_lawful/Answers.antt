use Rattle.std.proofs.Common.{subst}
use Rattle.asl_code.proofs.FitsLaws.{image_fits}
use Rattle.asl_lock_forest.specs.Holding.{IsWithin}
use Rattle.asl_machine.proofs.Reached.{reached_sound, reached_count}
use Rattle.asl_machine.proofs.laws.reached_holdings_are_lawful.Goals as goal

pub returns : goal.returns
returns c = record {
  outside = λ image count s t v r e. (reached_sound image count s (image_fits image v) r).outside t e;
  lawful = λ image count s v r. (reached_sound image count s (image_fits image v) r).lawful;
  within = λ image count s v r. subst (λ n. IsWithin image.classes n s.holding) (reached_count image count s r) (reached_sound image count s (image_fits image v) r).within;
}
