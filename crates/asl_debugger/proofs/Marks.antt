-- Checkpoints, one after the other.
use Rattle.std.proofs.Common.{◌≡◌, ℕ, zero, suc, ◌+◌, ◌*◌, ◌<◌, ◌≤◌, ◌⊎◌, inl, inr, List, [], ◌∷◌, ◌++◌, length, take, Some, Option, refl, ap, sym, subst, ◌∙◌, arith}
use Rattle.std.specs.Prelude.{slice_get}
use Rattle.std.proofs.lemmas.List.{take_all, length_push}
use Rattle.std.proofs.Math.Nat.{lt_of_mul-lt-mul_right}
use Rattle.asl_code.specs.declared.image.Image.{Image}
use Rattle.asl_code.specs.Verified.{IsVerified}
use Rattle.asl_machine.specs.View.{Configuration}
use Rattle.asl_machine.specs.Paused.{Rest, IsRestOf}
use Rattle.asl_machine.specs.Run.{IsThreadCount, start_of}
use Rattle.asl_journal.specs.Journal.{Log, IsLog, IsJournal}
use Rattle.asl_journal.specs.Computed.{GoesBy}
use Rattle.asl_journal.proofs.ByTable.{journal_of}
use Rattle.asl_journal.proofs.Differences.{no_difference}
use Rattle.asl_debugger.specs.declared.fault.DebugFault.{DebugFault}
use Rattle.asl_debugger.specs.declared.fault.DebugFault.TheVariants.{AtEnd, AtStart, NoSuchStep, Differs, OutOfMemory, BadCount}
use Rattle.asl_debugger.specs.Opening.{IsOpenFault}
use Rattle.asl_debugger.specs.Computed.{machine_before, state_before}
use Rattle.asl_debugger.proofs.Positions.{is_at}
use Rattle.asl_debugger.specs.declared.trail.Mark.{Mark}
use Rattle.asl_debugger.specs.Checkpoints.{IsMark, AreCheckpoints, IsDebuggerState}
use Rattle.asl_debugger.specs.Growing.{AreSoFar}

-- what is left of the machine at a position is a mark there
pub mark_of : (image : Image) (log : Log) (k : ℕ) (machine : Configuration) (rest : Rest) → machine ≡ machine_before image log k → IsRestOf machine.image rest → rest.state ≡ machine.state → IsMark image log k rest
mark_of image log k machine rest at fits state = record {
  fits = subst (λ (i : Image). IsRestOf i rest) (ap (λ (m : Configuration). m.image) at) fits;
  state = state ∙ ap (λ (m : Configuration). m.state) at;
}

-- the machine of which a mark is left
pub marked : (image : Image) (log : Log) (k : ℕ) (rest : Rest) (machine : Configuration) → machine ≡ record { image = image; state = rest.state } → IsMark image log k rest → machine ≡ machine_before image log k
marked image log k rest machine e is =
    is_at machine image (state_before image log k) (ap (λ (m : Configuration). m.image) e) (ap (λ (m : Configuration). m.state) e ∙ is.state)

some : Rest → Option Rest
some m = Some m

-- what a list with one item more has at a place
pushed : (xs : List Rest) (y x : Rest) (i : ℕ) → slice_get (xs ++ y ∷ []) i ≡ Some x → (slice_get xs i ≡ Some x) ⊎ ((i ≡ length xs) × (x ≡ y))
unfolding some
pushed [] y x zero e = let both : some y ≡ some x = e in let same : y ≡ x = cc in inr (refl, sym same)
pushed [] y x (suc i) e = absurd cc
pushed (z ∷ zs) y x zero e = inl e
pushed (z ∷ zs) y x (suc i) e = elim (pushed zs y x i e) [ inl old ↦ inl old | inr new ↦ inr (omega (arith, new.0), new.1) ]

-- one checkpoint more, after the others
pub each_pushed : (image : Image) (log : Log) (spacing k : ℕ) (checkpoints : List Rest) (rest : Rest) → AreCheckpoints image log spacing checkpoints → k ≡ length checkpoints * spacing → IsMark image log k rest
    → AreCheckpoints image log spacing (checkpoints ++ rest ∷ [])
each_pushed image log spacing k checkpoints rest each place is = λ index r e. elim (pushed checkpoints rest r index e) [
  | inl old ↦ each index r old
  | inr new ↦ subst (λ (x : Rest). IsMark image log (index * spacing) x) (sym new.1) (subst (λ (n : ℕ). IsMark image log n rest) (place ∙ ap (λ (n : ℕ). n * spacing) (sym new.0)) is)
]

pub longer : (spacing : ℕ) (checkpoints : List Rest) (rest : Rest) → length (checkpoints ++ rest ∷ []) * spacing ≡ length checkpoints * spacing + spacing
longer spacing checkpoints rest =
    let more : (length checkpoints + 1) * spacing ≡ length checkpoints * spacing + spacing = omega arith in
    ap (λ (n : ℕ). n * spacing) (length_push checkpoints rest) ∙ more

no_checkpoints : (image : Image) (log : Log) (spacing : ℕ) → AreCheckpoints image log spacing []
no_checkpoints image log spacing = λ index r e. absurd cc

pub so_far_start : (image : Image) (log : Log) (spacing : ℕ) (machine : Configuration) (rest : Rest) → IsThreadCount image log.threads → machine ≡ machine_before image log 0 → IsRestOf machine.image rest → rest.state ≡ machine.state
    → AreSoFar image log spacing 0 machine ([] ++ rest ∷ [])
so_far_start image log spacing machine rest few at fits state = record {
  counted = few;
  at = at;
  each = each_pushed image log spacing 0 [] rest (no_checkpoints image log spacing) (omega arith) (mark_of image log 0 machine rest at fits state);
  last = omega arith;
  within = omega arith;
  goes = refl;
}

pub so_far_next : (image : Image) (log : Log) (spacing here : ℕ) (old machine : Configuration) (checkpoints : List Rest) (rest : Rest) → AreSoFar image log spacing here old checkpoints → machine ≡ machine_before image log (here + spacing)
    → IsRestOf machine.image rest → rest.state ≡ machine.state → here + spacing ≤ length log.events → GoesBy image (start_of image log.threads) (take (here + spacing) log.events)
    → AreSoFar image log spacing (here + spacing) machine (checkpoints ++ rest ∷ [])
so_far_next image log spacing here old machine checkpoints rest so_far at fits state within goes = record {
  counted = so_far.counted;
  at = at;
  each = each_pushed image log spacing (here + spacing) checkpoints rest so_far.each so_far.last (mark_of image log (here + spacing) machine rest at fits state);
  last = ap (λ (n : ℕ). n + spacing) so_far.last ∙ sym (longer spacing checkpoints rest);
  within = within;
  goes = goes;
}

-- the machine that is here is of the program
pub so_far_of : (image : Image) (log : Log) (spacing here : ℕ) (machine : Configuration) (checkpoints : List Rest) → AreSoFar image log spacing here machine checkpoints → AreSoFar machine.image log spacing here machine checkpoints
so_far_of image log spacing here machine checkpoints so_far =
    subst (λ (i : Image). AreSoFar i log spacing here machine checkpoints) (sym (ap (λ (m : Configuration). m.image) so_far.at)) so_far

-- what comes of it is too
pub so_far_on : (image : Image) (log : Log) (spacing here next : ℕ) (old machine : Configuration) (olds checkpoints : List Rest) → AreSoFar image log spacing here old olds → AreSoFar old.image log spacing next machine checkpoints
    → AreSoFar image log spacing next machine checkpoints
so_far_on image log spacing here next old machine olds checkpoints so_far on =
    subst (λ (i : Image). AreSoFar i log spacing next machine checkpoints) (ap (λ (m : Configuration). m.image) so_far.at) on

-- a journal that is followed to its end
pub all_followed : (image : Image) (log : Log) → IsVerified image → IsThreadCount image log.threads → IsLog log → GoesBy image (start_of image log.threads) (take (length log.events) log.events) → IsJournal image log.threads log.events
all_followed image log verified few is goes =
    journal_of image log.threads log.events verified few is.there (subst (GoesBy image (start_of image log.threads)) (take_all (length log.events) log.events (omega arith)) goes)

-- the number of the greatest checkpoint that is not past a position
pub number_there : (image : Image) (log : Log) (spacing position k number : ℕ) (checkpoints : List Rest) (marks : List Mark) (machine : Configuration) → IsDebuggerState image log spacing checkpoints marks machine position → k ≤ length log.events → number * spacing ≤ k → number < length checkpoints
number_there image log spacing position k number checkpoints marks machine kept within le =
    let enough = kept.enough in
    let lt : number * spacing < length checkpoints * spacing = omega arith in
    lt_of_mul-lt-mul_right spacing lt

-- there is a checkpoint where there are enough
pub first_there : (n count spacing : ℕ) → n < count * spacing → 0 < count
first_there n zero spacing lt = let nothing : 0 * spacing ≡ 0 = omega arith in absurd (omega arith)
first_there n (suc count) spacing lt = omega arith

-- the first checkpoint is at position 0
pub first_is : (image : Image) (log : Log) (spacing : ℕ) (checkpoints : List Rest) (rest : Rest) → AreCheckpoints image log spacing checkpoints → slice_get checkpoints 0 ≡ Some rest → IsMark image log 0 rest
first_is image log spacing checkpoints rest each at = let nothing : 0 * spacing ≡ 0 = omega arith in subst (λ (n : ℕ). IsMark image log n rest) nothing (each 0 rest at)

-- what refuses a journal of the program is running out of memory
pub only_memory : (image : Image) (log : Log) (fault : DebugFault) → IsJournal image log.threads log.events → IsOpenFault image log fault → fault ≡ OutOfMemory
only_memory image log AtEnd j is = absurd is
only_memory image log AtStart j is = absurd is
only_memory image log NoSuchStep j is = absurd is
only_memory image log (Differs index) j is = absurd (no_difference image log.threads log.events index j is.1)
only_memory image log OutOfMemory j is = refl
only_memory image log BadCount j is = absurd (omega (arith, j.leads.counted.1, is))
