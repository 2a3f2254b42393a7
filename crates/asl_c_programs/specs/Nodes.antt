-- What is asked for at nodes that no list names (docs/EMBEDDING.md, "A program as data from C").
use Rattle.std.specs.Prelude.{◌≡◌, ℕ, List, false, Some, slice_get}
use Rattle.asl_code.specs.declared.image.Image.{Image}
use Rattle.asl_code.specs.declared.lock.Lock.{Lock}
use Rattle.asl_code.specs.declared.value.Value.{Value}
use Rattle.asl_mode_lanes.specs.Mode.{AtMost}
use Rattle.asl_mode_lanes.specs.declared.mode.Mode.TheVariants.{IX}
use Rattle.asl_lock_forest.specs.declared.node.Node.{Node}
use Rattle.asl_lock_forest.specs.Holding.{asked}
use Rattle.asl_machine.specs.Request.{request_of}
use Rattle.asl_machine.specs.State.{Object}

-- whatever the objects and the registers are, the request of each list of the program asks at the node for no more than IX
abbrev pub AsksForIntention : Image → Node → Type 0
AsksForIntention i node =
    (objects : List Object) (regs : List Value) (n : ℕ) (locks : List Lock) → slice_get i.lists n ≡ Some locks → AtMost (asked (request_of objects regs locks) node) IX
