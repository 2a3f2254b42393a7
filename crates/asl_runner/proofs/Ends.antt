-- A run at its end.
use Rattle.std.proofs.Common.{◌≡◌, ◌⊎◌, inl, inr, ℕ, zero, suc, ◌<◌, ◌%◌, List, [], ◌∷◌, map, length, Vec, Global, Some, slice_get, refl, ap, sym, ◌∙◌, arith}
use Rattle.std.proofs.Math.Nat.{mod-lt}
use Rattle.std.proofs.lemmas.Bool.{cases_lt}
use Rattle.std.proofs.lemmas.List.{length-map}
use Rattle.asl_code.proofs.TestsTold.{element_at}
use Rattle.asl_machine.specs.State.{State}
use Rattle.asl_turns.specs.Turn.{Turn}
use Rattle.asl_journal.specs.declared.event.Receipt.{Receipt}
use Rattle.asl_journal.specs.Recorded.{has_ended}
use Rattle.asl_code.specs.declared.image.Image.{Image}
use Rattle.asl_runner.specs.History.{AreTrue, HaveEnded, IsRight, IsWrong}
use Rattle.asl_runner.specs.Refused.{IsWrongAt}
use Rattle.asl_runner.specs.Working.{AreJoined}
use Rattle.asl_runner.specs.Ending.{AllTold, IsRun, all_receipts}
use Rattle.asl_runner.specs.declared.report.Report.{Report}
use Rattle.std.proofs.lemmas.Option.{slice_get_within}

-- no pass is spent, and all workers were told that their threads have ended; or a pass is spent, and the limit is reached
pub end_of : (count workers tickets limit : ℕ) (seat : Turn) (all : List (List Receipt)) → AreJoined count workers seat all → (0 < seat.spent → tickets ≡ limit)
    → ((worker : ℕ) (mine : List Receipt) → slice_get all worker ≡ Some mine → AllTold count workers worker mine) ⊎ (tickets ≡ limit)
end_of count workers tickets limit seat all joined spent =
    elim (cases_lt 0 seat.spent) [
      | inl some ↦ inr (spent some)
      | inr none ↦ inl (λ worker mine at. elim (joined.why worker mine at) [ inl some ↦ absurd (omega (arith, some, none)) | inr told ↦ told ])
    ]

-- the receipts of a worker as a list, and as a vector
pub vector_of : (all : List (Vec Receipt Global)) (k : ℕ) (mine : List Receipt) → slice_get (map (λ (m : Vec Receipt Global). m.items) all) k ≡ Some mine
    → (m : Vec Receipt Global) × (slice_get all k ≡ Some m) × (m.items ≡ mine)
vector_of [] k mine e = cc
vector_of (m ∷ all) zero mine e = (m, refl, cc)
vector_of (m ∷ all) (suc k) mine e = vector_of all k mine e

-- the vector of a place is the list of that place
list_of : (all : List (Vec Receipt Global)) (k : ℕ) (m : Vec Receipt Global) → slice_get all k ≡ Some m → slice_get (map (λ (m : Vec Receipt Global). m.items) all) k ≡ Some m.items
list_of [] k m e = cc
list_of (x ∷ all) zero m e = cc
list_of (x ∷ all) (suc k) m e = list_of all k m e

-- the worker whose receipts are wrong has receipts
pub wrong_at : (image : Image) (count workers limit worker : ℕ) (report : Report) → IsRun image count workers limit report → worker < workers
    → ((mine : Vec Receipt Global) → slice_get report.receipts.items worker ≡ Some mine → IsWrong workers worker report.machine.state report.journal.events mine.items)
    → IsWrongAt image count workers limit worker report
wrong_at image count workers limit worker report ran lt wrong =
    let there = element_at report.receipts.items worker (rw (sym (length-map report.receipts.items (λ (m : Vec Receipt Global). m.items)) ∙ ran.dealers) lt) in
    record {
      run = ran;
      there = lt;
      receipts = there.0.items;
      its = list_of report.receipts.items worker there.0 there.1;
      wrong = wrong there.0 there.1;
    }

-- where no worker is the first with wrong receipts, all are right
pub are_right : (workers : ℕ) (report : Report) → length (all_receipts report) ≡ workers
    → ((worker : ℕ) (mine : Vec Receipt Global) → worker < workers → slice_get report.receipts.items worker ≡ Some mine → IsRight workers worker report.machine.state report.journal.events mine.items)
    → (worker : ℕ) (mine : List Receipt) → slice_get (all_receipts report) worker ≡ Some mine → IsRight workers worker report.machine.state report.journal.events mine
are_right workers report count each worker mine at =
    let v = vector_of report.receipts.items worker mine at in
    let lt : worker < workers = rw (← count) (slice_get_within (all_receipts report) worker mine at) in
    rw (← v.2) (each worker v.0 lt v.1)

-- where each worker's receipts are right, and each was told that its threads have ended, all threads have
pub have_ended : (count workers : ℕ) (s : State) (all : List (List Receipt)) → 0 < workers → length all ≡ workers
    → ((worker : ℕ) (mine : List Receipt) → slice_get all worker ≡ Some mine → AreTrue s mine) → ((worker : ℕ) (mine : List Receipt) → slice_get all worker ≡ Some mine → AllTold count workers worker mine)
    → HaveEnded s count
have_ended count workers s all some dealers true_of told t lt =
    let worker = t % workers in
    let there = element_at all worker (rw dealers (mod-lt t some)) in
    let say = told worker there.0 there.1 t (record { there = lt; mine = refl }) in
    ap (has_ended s) (sym say.3) ∙ true_of worker there.0 there.1 say.0 say.1 say.2 say.4
