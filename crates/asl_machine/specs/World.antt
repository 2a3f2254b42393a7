-- That threads never block one another all together: since a section takes all its locks at once, who holds some has a
-- step (docs/TOUR.md, "How it goes on").
use Rattle.std.specs.Prelude.{◌≢◌, ℕ, IsSome}
use Rattle.asl_code.specs.declared.image.Image.{Image}
use Rattle.asl_mode_lanes.specs.declared.mode.Mode.TheVariants.{NL}
use Rattle.asl_lock_forest.specs.declared.node.Node.{Node}
use Rattle.asl_lock_forest.specs.Holding.{held}
use Rattle.asl_machine.specs.declared.reply.Reply.{Reply}
use Rattle.asl_machine.specs.declared.reply.Reply.TheVariants.{Blocked}
use Rattle.asl_machine.specs.State.{State, activity_at}
use Rattle.asl_machine.specs.Step.{Step}

-- some running thread holds a node, and its next step is not blocked
pub record SomeoneGoesOn (image : Image) (s : State) : Type 0 where
  pub thread : ℕ
  pub runs : IsSome (activity_at s.threads thread)
  pub node : Node
  pub holds : held s.holding thread node ≢ NL
  pub reply : Reply
  pub new : State
  pub steps : Step image s thread reply new
  pub goes_on : reply ≢ Blocked
