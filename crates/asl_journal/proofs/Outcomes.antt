-- Bytes have one outcome: each is what the reader of all the bytes answers.
use Rattle.std.proofs.Common.{◌≡◌, ◌≢◌, ℕ, Bool, true, false, eqb, List, Result, Ok, Err, refl, sym, ap, ◌∙◌}
use Rattle.std.proofs.lemmas.Bool.{eqb-true}
use Rattle.asl_code.proofs.Values.{AreBytes}
use Rattle.asl_journal.specs.declared.fault.JournalFault.{JournalFault}
use Rattle.asl_journal.specs.declared.fault.JournalFault.TheVariants.{JournalFull, BadCount, BadThread, Differs, Magic, Version, Truncated, BadField, Trailing, OutOfMemory}
use Rattle.asl_journal.specs.Journal.{Log}
use Rattle.asl_journal.specs.Faults.{IsBytesFault, IsOutcome, BytesHaveAnOutcome, OutcomeIsOne}
use Rattle.asl_journal.specs.JournalFields.{bad_fault, whole_of}
use Rattle.asl_journal.proofs.Loads.{whole_found, whole_again, whole_refused, refused_again}
use Rattle.asl_loader.proofs.Whole.{are_bytes, ends_within, has_bad, goes_on}

other_fault : (at : ℕ) → at ≢ 0 → at ≢ 4 → bad_fault at ≡ BadField at
other_fault at some far = by_tests (eqb at 0) (eqb at 4) refl refl
  where
    by_tests : (p q : Bool) → eqb at 0 ≡ p → eqb at 4 ≡ q → bad_fault at ≡ BadField at
    by_tests true q e f = absurd (some (eqb-true at 0 e))
    by_tests false true e f = absurd (far (eqb-true at 4 f))
    by_tests false false e f = rw (e, f) refl

-- each fault is what the reader of all the bytes answers
fault_answered : (bytes : List ℕ) (f : JournalFault) → AreBytes bytes → IsBytesFault bytes f → f ≢ OutOfMemory → whole_of bytes ≡ Err f
fault_answered bytes JournalFull fit is known = absurd is
fault_answered bytes BadCount fit is known = absurd is
fault_answered bytes BadThread fit is known = absurd is
fault_answered bytes (Differs index) fit is known = absurd is
fault_answered bytes Magic fit is known = refused_again bytes Magic fit (has_bad 0 is refl)
fault_answered bytes Version fit is known = refused_again bytes Version fit (has_bad 4 is refl)
fault_answered bytes (Truncated at) fit is known = refused_again bytes (Truncated at) fit (ends_within is.1 (ap (λ (n : ℕ). Truncated n) is.0))
fault_answered bytes (BadField at) fit is known = refused_again bytes (BadField at) fit (has_bad at is.2 (sym (other_fault at is.0 is.1)))
fault_answered bytes (Trailing at) fit is known = refused_again bytes (Trailing at) fit (goes_on at is.1.0 is.0 is.1.1.fits is.1.1.spelled refl)
fault_answered bytes OutOfMemory fit is known = absurd (known refl)

answered : (bytes : List ℕ) (outcome : Result Log JournalFault) → AreBytes bytes → IsOutcome bytes outcome → whole_of bytes ≡ outcome
answered bytes (Ok l) fit is = whole_again bytes l is
answered bytes (Err f) fit is = fault_answered bytes f fit is.0 is.1

-- ---- the laws

pub outcome_is_one : OutcomeIsOne
outcome_is_one bytes outcome other all is also =
    let fit = are_bytes bytes all in
    sym (answered bytes outcome fit is) ∙ answered bytes other fit also

pub some_outcome : BytesHaveAnOutcome
some_outcome bytes all = of_whole (whole_of bytes) refl
  where
    of_whole : (r : Result Log JournalFault) → whole_of bytes ≡ r → (outcome : Result Log JournalFault) × IsOutcome bytes outcome
    of_whole (Ok l) e = (Ok l, whole_found bytes l (are_bytes bytes all) e)
    of_whole (Err f) e = (Err f, whole_refused bytes f (are_bytes bytes all) e)
