-- What the parts of the code are to contracts: threads, the readers' answers and the machine (docs/INSTRUCTIONS.md, "State").
use Rattle.asl_code.specs.declared.image.Image.{Image}
use Rattle.asl_machine.specs.declared.reply.Status.{Status}
use Rattle.asl_machine.specs.declared.reply.Status.TheVariants as status
use Rattle.asl_machine.specs.State.{Thread, Running, Done, Failed, State}

-- whether a thread runs, and else how it ended
abbrev pub status_of : Thread → Status
status_of (Running activity) = status.Running
status_of (Done value) = status.Done value
status_of (Failed f) = status.Failed f

-- a machine as contracts see it: its program, and its state
pub record Configuration : Type 0 where
  pub image : Image
  pub state : State
