-- Machinery of the proofs, not of the promise: checkpoints that are put one behind the other (src/checkpoints.rt, src/debugger/recording.rt).
use Rattle.std.specs.Prelude.{◌≡◌, ◌≤◌, ◌+◌, ◌*◌, ◌++◌, ◌∷◌, [], ℕ, List, length, take}
use Rattle.asl_code.specs.declared.image.Image.{Image}
use Rattle.asl_machine.specs.View.{Configuration}
use Rattle.asl_machine.specs.Paused.{Rest, IsRestOf}
use Rattle.asl_machine.specs.Run.{IsThreadCount, start_of}
use Rattle.asl_machine.specs.Step.{Step}
use Rattle.asl_machine.specs.declared.reply.Reply.{Reply}
use Rattle.asl_journal.specs.Computed.{GoesBy}
use Rattle.asl_journal.specs.Journal.{Log}
use Rattle.asl_debugger.specs.Computed.{machine_before}
use Rattle.asl_debugger.specs.Checkpoints.{AreCheckpoints}

-- the machine is here, and the events up to here are of the program's run: some checkpoints stand at 0, the spacing, twice the
-- spacing and so on, the last one here
pub record AreSoFar (image : Image) (log : Log) (spacing here : ℕ) (machine : Configuration) (checkpoints : List Rest) : Type 0 where
  pub counted : IsThreadCount image log.threads
  pub at : machine ≡ machine_before image log here
  pub each : AreCheckpoints image log spacing checkpoints
  pub last : here + spacing ≡ length checkpoints * spacing
  pub within : here ≤ length log.events
  pub goes : GoesBy image (start_of image log.threads) (take here log.events)

-- these are the old checkpoints, and behind them what is left of the machine
pub record HasOneMore (machine : Configuration) (old new : List Rest) : Type 0 where
  pub rest : Rest
  pub fits : IsRestOf machine.image rest
  pub state : rest.state ≡ machine.state
  pub items : new ≡ old ++ rest ∷ []

-- these are the old checkpoints, and behind them what is left of the machine after a step of thread t
pub record HasOneAhead (machine : Configuration) (t : ℕ) (old new : List Rest) : Type 0 where
  pub rest : Rest
  pub fits : IsRestOf machine.image rest
  pub ahead : (reply : Reply) × Step machine.image machine.state t reply rest.state
  pub items : new ≡ old ++ rest ∷ []
