-- Machinery of the proofs, not of the promise: the code's builder (src/build.rt) as the value that specs/Built speaks
-- of, the builder of docs/SOURCE.md's trees.
use Rattle.std.specs.Prelude.{map, reverse}
use Rattle.asl_syntax.specs.declared.build.Builder as code
use Rattle.asl_grammar.specs.declared.control.Control as control
use Rattle.asl_grammar.specs.ControlView.{control_of}
use Rattle.asl_syntax.specs.View.{item_of}
use Rattle.asl_syntax.specs.Built.{Stack, State}
use Rattle.asl_syntax.specs.BuildView.{part_of, frame_of}

-- what has been built, with the innermost block first
abbrev pub stack_of : code.Builder → Stack
stack_of b = record {
  items = map item_of b.items.items;
  name = b.name;
  parameters = b.parameters.items;
  arguments = b.arguments.items;
  top = part_of b.top;
  frames = reverse (map frame_of b.frames.items);
}

-- a control and what has been built
abbrev pub state_in : control.Control → code.Builder → State
state_in c b = record { control = control_of c; stack = stack_of b }
