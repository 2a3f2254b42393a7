use Rattle.std.proofs.Common.{◌≢◌}
use Rattle.asl_machine.specs.declared.fault.Fault.TheVariants as fault
use Rattle.asl_machine.specs.declared.reply.Reply.TheVariants as reply
use Rattle.asl_machine.proofs.Lines.{of_line}
use Rattle.asl_soundness.proofs.StructureLaws.{kept_structured}
use Rattle.asl_soundness.proofs.Structure.{step_entered}
use Rattle.asl_soundness.proofs.structure_laws.sections_are_entered_and_left.Goals as goal

pub returns : goal.returns
returns c = λ l d image count s new t answer kept made r step.
    of_line image s t (λ q u. (q ≢ reply.Fault fault.NoSection) × (q ≢ reply.Fault fault.Open))
    (step_entered l d image made kept.layout s t (kept_structured l d image count s kept made r)) answer new step
