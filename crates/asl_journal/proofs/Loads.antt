-- What the reader of all the bytes answers is the journal that they spell, or the first thing that is wrong with them.
use Rattle.std.proofs.Common.{◌≡◌, ◌≢◌, ℕ, Bool, true, false, eqb, ◌⊎◌, inl, inr, List, Result, Ok, Err, refl, sym, subst, ◌∙◌}
use Rattle.std.specs.Prelude.{IfOk, IfErr}
use Rattle.std.proofs.lemmas.Bool.{eqb-true}
use Rattle.asl_journal.specs.Journal.{Log}
use Rattle.asl_journal.specs.Bytes.{log_fields, HasBytes, SpellsLog}
use Rattle.asl_journal.specs.Faults.{IsBadLogByte, IsBytesFault}
use Rattle.asl_journal.specs.JournalFields.{log_at, bad_fault, whole_of}
use Rattle.asl_journal.specs.declared.fault.JournalFault.{JournalFault}
use Rattle.asl_journal.specs.declared.fault.JournalFault.TheVariants.{Truncated, Trailing, OutOfMemory}
use Rattle.asl_code.proofs.Values.{AreBytes}
use Rattle.asl_loader.proofs.Whole as whole
use Rattle.asl_loader.proofs.Whole.{IsWrong}
use Rattle.asl_journal.proofs.Logs.{log_reads}

-- the fault is the first thing that is wrong with the bytes of a journal
abbrev pub Wrong : List ℕ → JournalFault → Type 0
Wrong bytes f = IsWrong Log JournalFault HasBytes log_fields (λ n. Truncated n) bad_fault (λ n. Trailing n) bytes f

abbrev answered : Log → Result Log JournalFault
answered i = Ok i

abbrev refused : JournalFault → Result Log JournalFault
refused f = Err f

pub whole_found : (bytes : List ℕ) (i : Log) → AreBytes bytes → whole_of bytes ≡ Ok i → SpellsLog i bytes
unfolding whole_of
whole_found bytes i fit e =
    let w = whole.whole_found Log JournalFault HasBytes log_fields log_at log_reads (λ n. Truncated n) bad_fault (λ n. Trailing n) bytes i fit e in
    record { fits = w.0; spelled = w.1 }

pub whole_again : (bytes : List ℕ) (i : Log) → SpellsLog i bytes → whole_of bytes ≡ Ok i
unfolding whole_of
whole_again bytes i s = whole.whole_again Log JournalFault HasBytes log_fields log_at log_reads (λ n. Truncated n) bad_fault (λ n. Trailing n) bytes i s.fits s.spelled

-- the fault of a bad byte names it, and is not running out of memory
bad_is : (bytes : List ℕ) (at : ℕ) (p q : Bool) → eqb at 0 ≡ p → eqb at 4 ≡ q → IsBadLogByte bytes at → IsBytesFault bytes (bad_fault at) × (bad_fault at ≢ OutOfMemory)
bad_is bytes at true q e f bad = rw e (subst (IsBadLogByte bytes) (eqb-true at 0 e) bad, λ z. absurd cc)
bad_is bytes at false true e f bad = rw (e, f) (subst (IsBadLogByte bytes) (eqb-true at 4 f) bad, λ z. absurd cc)
bad_is bytes at false false e f bad =
    let no : at ≢ 0 = λ z. let y : eqb at 0 ≡ true = rw z refl in absurd cc in
    let nor : at ≢ 4 = λ z. let y : eqb at 4 ≡ true = rw z refl in absurd cc in
    rw (e, f) ((no, nor, bad), λ z. absurd cc)

wrong_is : (bytes : List ℕ) (f : JournalFault) → Wrong bytes f → IsBytesFault bytes f × (f ≢ OutOfMemory)
wrong_is bytes f (whole.ends_within cut e) = rw e ((refl, cut), λ z. absurd cc)
wrong_is bytes f (whole.has_bad at bad e) = rw e (bad_is bytes at (eqb at 0) (eqb at 4) refl refl bad)
wrong_is bytes f (whole.goes_on at i lt is spelled e) = rw e ((lt, (i, record { fits = is; spelled = spelled })), λ z. absurd cc)

pub whole_refused : (bytes : List ℕ) (f : JournalFault) → AreBytes bytes → whole_of bytes ≡ Err f → IsBytesFault bytes f × (f ≢ OutOfMemory)
unfolding whole_of
whole_refused bytes f fit e = wrong_is bytes f (whole.whole_refused Log JournalFault HasBytes log_fields log_at log_reads (λ n. Truncated n) bad_fault (λ n. Trailing n) bytes f fit e)

pub refused_again : (bytes : List ℕ) (f : JournalFault) → AreBytes bytes → Wrong bytes f → whole_of bytes ≡ Err f
unfolding whole_of
refused_again bytes f fit wrong = whole.refused_again Log JournalFault HasBytes log_fields log_at log_reads (λ n. Truncated n) bad_fault (λ n. Trailing n) bytes f fit wrong

-- ---- the clauses of get

-- what the reader of all the bytes answered
abbrev pub IsWhole : List ℕ → Result Log JournalFault → Type 0
IsWhole bytes r = ((r ≡ Err OutOfMemory) × ((log : Log) × (whole_of bytes ≡ Ok log))) ⊎ (r ≡ whole_of bytes)

pub gets_found : (bytes : List ℕ) (r : Result Log JournalFault) → AreBytes bytes → IsWhole bytes r → IfOk r (λ log. SpellsLog log bytes)
gets_found bytes (Ok i) fit w = elim w [ inl out ↦ let both : answered i ≡ refused OutOfMemory = out.0 in absurd cc | inr e ↦ whole_found bytes i fit (sym e) ]
gets_found bytes (Err f) fit w = tt

pub gets_refused : (bytes : List ℕ) (r : Result Log JournalFault) → AreBytes bytes → IsWhole bytes r → IfErr r (IsBytesFault bytes)
gets_refused bytes (Ok i) fit w = tt
gets_refused bytes (Err f) fit w =
    elim w [
      | inl out ↦
          let both : refused f ≡ refused OutOfMemory = out.0 in
          let same : OutOfMemory ≡ f = cc in
          subst (IsBytesFault bytes) same (out.1.0, whole_found bytes out.1.0 fit out.1.1)
      | inr e ↦ (whole_refused bytes f fit (sym e)).0
    ]

-- what is spelled is what is answered, unless memory ran out
pub gets_only : (bytes : List ℕ) (r : Result Log JournalFault) (log : Log) → IsWhole bytes r → SpellsLog log bytes → (r ≡ Ok log) ⊎ (r ≡ Err OutOfMemory)
gets_only bytes r log w spells = elim w [ inl out ↦ inr out.0 | inr e ↦ inl (e ∙ whole_again bytes log spells) ]
