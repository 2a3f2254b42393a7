use Rattle.asl_journal.specs.Journal.{schedule_of, replies_in}
use Rattle.asl_soundness.specs.Safe.{IsSafe}
use Rattle.asl_theorems.proofs.Checked.{checked_safe}
use Rattle.asl_theorems.proofs.Programs.{compiled_safe}
use Rattle.asl_theorems.proofs.Receipts.{dealt_all}
use Rattle.asl_theorems.proofs.no_worker_meets_a_missing_lock.Goals as goal

pub returns-clause-events : goal.returns-clause-events
returns-clause-events c source k_limit image count workers events receipts p h = compiled_safe source k_limit image p count (schedule_of events) (replies_in events) h.journal.end h.journal.leads.runs

pub returns-clause-receipts : goal.returns-clause-receipts
returns-clause-receipts c source k_limit image count workers events receipts worker mine p h at =
    dealt_all IsSafe workers worker events mine (h.dealt.each worker mine at)
    (compiled_safe source k_limit image p count (schedule_of events) (replies_in events) h.journal.end h.journal.leads.runs)

pub returns-clause-checked_events : goal.returns-clause-checked_events
returns-clause-checked_events c source tree k_limit image count workers events receipts parsed verified checked h =
    checked_safe source tree k_limit image parsed verified checked count (schedule_of events) (replies_in events) h.journal.end h.journal.leads.runs

pub returns-clause-checked_receipts : goal.returns-clause-checked_receipts
returns-clause-checked_receipts c source tree k_limit image count workers events receipts worker mine parsed verified checked h at =
    dealt_all IsSafe workers worker events mine (h.dealt.each worker mine at)
    (checked_safe source tree k_limit image parsed verified checked count (schedule_of events) (replies_in events) h.journal.end h.journal.leads.runs)
