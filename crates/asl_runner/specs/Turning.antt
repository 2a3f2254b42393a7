-- Machinery of the proofs, not of the promise: a worker before and after a call (src/worker.rt).
use Rattle.std.specs.Prelude.{◌≡◌, ◌<◌, ◌≤◌, ◌%◌, ℕ}
use Rattle.asl_code.specs.Versions.{newest_threads}
use Rattle.asl_turns.specs.Turn.{Word}
use Rattle.asl_runner.specs.declared.worker.Post.{Post}
use Rattle.asl_runner.specs.declared.worker.Working.{Working}
use Rattle.asl_runner.specs.declared.worker.Next.{Next}
use Rattle.asl_runner.specs.declared.worker.Next.TheVariants.{GoOn, Stop, Refused}
use Rattle.asl_runner.specs.Working.{IsWorking, HasStopped, WasRefused}

-- a worker of a run
pub record IsAt (post : Post) : Type 0 where
  pub threads : post.count ≤ newest_threads
  pub mine : post.worker < post.workers
  pub few : post.workers ≤ 8

-- the number is that of a thread of the worker, or of one that it would have
abbrev pub IsTurnOf : Post → ℕ → Type 0
IsTurnOf post t = (t % post.workers) ≡ post.worker

-- a worker between two calls
pub record IsReadyAt (word : Word) (post : Post) (at : Working) : Type 0 where
  pub placed : IsAt post
  pub works : IsWorking word post.count post.workers post.worker at.seat at.receipts.items at.going
  pub from : IsTurnOf post at.from

-- a worker after a call
abbrev pub AfterTurn : Word → Post → Working → Next → Type 0
AfterTurn word post at GoOn = IsReadyAt word post at
AfterTurn word post at Stop = HasStopped word post.count post.workers post.worker at.seat at.receipts.items
AfterTurn word post at Refused = WasRefused word post.count post.workers post.worker at.seat at.receipts.items
