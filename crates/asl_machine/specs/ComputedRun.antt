-- Machinery: the replies and the state of a schedule by the computed step, from any state on. The law runs_are_the_tables says
-- that a run by the instruction table has these replies and leads to this state.
use Rattle.std.specs.Prelude.{ℕ, List, [], ◌∷◌}
use Rattle.asl_code.specs.declared.image.Image.{Image}
use Rattle.asl_machine.specs.declared.reply.Reply.{Reply}
use Rattle.asl_machine.specs.State.{State}
use Rattle.asl_machine.specs.StepFunction.{step_of}

-- the replies of a schedule from a state on
abbrev pub replies_of : Image → State → List ℕ → List Reply
replies_of image s [] = []
replies_of image s (t ∷ ts) = (step_of image s t).reply ∷ replies_of image (step_of image s t).state ts

-- the state after a schedule from a state on
abbrev pub state_after : Image → State → List ℕ → State
state_after image s [] = s
state_after image s (t ∷ ts) = state_after image (step_of image s t).state ts
