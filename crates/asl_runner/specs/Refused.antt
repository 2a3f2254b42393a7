-- Why a run by workers has no good end (docs/WORKERS.md, "Refusals").
use Rattle.std.specs.Prelude.{◌≡◌, ◌<◌, ℕ, List, Option, None, Some, slice_get}
use Rattle.asl_code.specs.declared.image.Image.{Image}
use Rattle.asl_journal.specs.declared.event.Receipt.{Receipt}
use Rattle.asl_runner.specs.declared.fault.RunFault.{RunFault}
use Rattle.asl_runner.specs.declared.fault.RunFault.TheVariants as fault
use Rattle.asl_runner.specs.declared.report.Report.{Report}
use Rattle.asl_runner.specs.History.{IsAsked, IsWrong}
use Rattle.asl_runner.specs.Ending.{IsRun, all_receipts}

-- the run came to a good end, but this worker's receipts are wrong
pub record IsWrongAt (image : Image) (count workers limit worker : ℕ) (report : Report) : Type 0 where
  pub run : IsRun image count workers limit report
  pub there : worker < workers
  pub receipts : List Receipt
  pub its : slice_get (all_receipts report) worker ≡ Some receipts
  pub wrong : IsWrong workers worker report.machine.state report.journal.events receipts

-- the fault, and the report that comes with it: with wrong receipts, and with nothing else
abbrev pub IsRefusal : Image → ℕ → ℕ → ℕ → RunFault → Option Report → Type 0
IsRefusal image count workers limit fault.BadCount None = ¬ IsAsked image count workers limit
IsRefusal image count workers limit (fault.Receipt worker) (Some report) = IsAsked image count workers limit × IsWrongAt image count workers limit worker report
IsRefusal image count workers limit fault.Spawn None = IsAsked image count workers limit
IsRefusal image count workers limit fault.OutOfMemory None = IsAsked image count workers limit
IsRefusal image count workers limit fault report = ⊥
