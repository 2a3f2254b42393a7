use Rattle.std.proofs.Common.{sym}
use Rattle.asl_code.proofs.FitsLaws.{image_fits}
use Rattle.asl_machine.specs.declared.reply.Reply.TheVariants as reply
use Rattle.asl_machine.proofs.Reached.{reached_sound, someone_goes_on}
use Rattle.asl_machine.proofs.Unique.{step_only}
use Rattle.asl_machine.proofs.laws.no_world_is_blocked.Goals as goal

pub returns : goal.returns
returns c = λ image count s new t v r h.
    let sound = reached_sound image count s (image_fits image v) r in
    someone_goes_on image s t sound (sym (step_only image s t reply.Blocked new h).0)
