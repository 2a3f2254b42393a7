-- A machine that is kept without its program, until it continues over the same program.
use Rattle.std.specs.Prelude.{◌≡◌, ℕ, List}
use Rattle.asl_code.specs.declared.image.Image.{Image}
use Rattle.asl_machine.specs.State.{State}
use Rattle.asl_machine.specs.Ready.{firsts_from, IsMachine}

-- what is kept: the state, and what is not worked out again from the program, which is the place of each function's first
-- instruction, and for how many classes and threads there are locks
pub record Rest : Type 0 where
  pub state : State
  pub firsts : List ℕ
  pub classes : ℕ
  pub threads : ℕ

-- it is what is left of a machine of this program; who pauses a machine gets it, and who lets it continue gives it
pub record IsRestOf (image : Image) (rest : Rest) : Type 0 where
  pub machine : IsMachine image rest.state.objects (record { classes = rest.classes; threads = rest.threads; holding = rest.state.holding }) rest.state.threads
  pub begins : rest.firsts ≡ firsts_from 0 image.functions
