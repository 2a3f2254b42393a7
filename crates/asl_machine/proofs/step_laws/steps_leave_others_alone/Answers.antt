use Rattle.asl_machine.proofs.StepLeaves.{same_thread, same_held, same_class, same_size}
use Rattle.asl_machine.proofs.step_laws.steps_leave_others_alone.Goals as goal

pub returns : goal.returns
returns c = record {
  threads = λ image s new t other reply h apart. same_thread image s t reply new other apart h;
  holdings = λ image s new t other reply node h apart. same_held image s t reply new other apart h node;
  classes = λ image s new t object class reply h is. same_class image s t reply new object class h is;
  sizes = λ image s new t object size reply h is. same_size image s t reply new object size h is;
}
