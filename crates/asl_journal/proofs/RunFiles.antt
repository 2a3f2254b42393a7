-- A run file's parts are its only ones, and bytes have one outcome as a run file.
use Rattle.std.proofs.Common.{◌≡◌, ℕ, ◌<◌, ◌≤◌, ◌^◌, ◌⊎◌, inl, inr, List, ◌++◌, length, take, drop, Result, Ok, Err, refl, ap, ap₂, ◌∙◌, sym, subst, arith, length-append, length-take, All, IfOk, IfErr, lit<}
use Rattle.std.proofs.lemmas.Bool.{cases_lt}
use Rattle.std.proofs.lemmas.List.{take_at, drop_at, take-append-drop, length-take-le, get_or_past}
use Rattle.std.proofs.lemmas.List.Elements.{All-take, All-drop, All-get_or, All-from_get_or}
use Rattle.std.specs.Int.{w32, to_be_bytes}
use Rattle.asl_code.specs.declared.image.Image.{Image}
use Rattle.asl_code.proofs.Values.{AreBytes}
use Rattle.asl_loader.proofs.Eight.{AreBytes-take}
use Rattle.asl_loader.specs.declared.fault.LoadFault.{LoadFault}
use Rattle.asl_loader.specs.declared.fault.Stop.{Stop}
use Rattle.asl_loader.specs.Faults as image_faults
use Rattle.asl_loader.specs.SharedFields.{number_at}
use Rattle.asl_loader.proofs.FieldNumbers.{four_number}
use Rattle.asl_loader.proofs.Images.{image_is_one}
use Rattle.asl_loader.proofs.Lists.{verified_short}
use Rattle.asl_loader.proofs.Outcomes as images
use Rattle.asl_journal.specs.declared.fault.JournalFault.{JournalFault}
use Rattle.asl_journal.specs.Journal.{Log}
use Rattle.asl_journal.specs.Bytes.{SpellsLog}
use Rattle.asl_journal.specs.Faults as log_faults
use Rattle.asl_journal.proofs.Logs.{log_is_one}
use Rattle.asl_journal.proofs.Outcomes as logs
use Rattle.asl_loader.specs.Faults.{IsProgramImage}
use Rattle.asl_journal.specs.declared.run_file.FileFault.{FileFault}
use Rattle.asl_journal.specs.declared.run_file.FileFault.TheVariants as fault
use Rattle.asl_journal.specs.RunFile.{file_of, HasParts, HasNoParts, SpellsRun, IsFileFault, IsPartFault, IsLogFault, IsFileOutcome, RunOfSpellingIsOne, SpellingOfRunIsOne, FilesHaveAnOutcome, FileOutcomeIsOne}

-- ---- the parts

all_bytes : (bytes : List ℕ) → AreBytes bytes → All (λ b. b < 256) bytes
all_bytes bytes fit = All-from_get_or (λ b. b < 256) bytes 0 (λ i lt. fit i)

are_bytes : (bytes : List ℕ) → All (λ b. b < 256) bytes → AreBytes bytes
are_bytes bytes all i =
    elim (cases_lt i (length bytes)) [
      | inl lt ↦ All-get_or (λ (b : ℕ). b < 256) bytes i 0 lt all
      | inr le ↦ rw (get_or_past bytes i 0 le) (lit< tt)
    ]

abbrev read : ℕ × List ℕ → Result (ℕ × List ℕ) Stop
read x = Ok x

same_number : (n m : ℕ) (xs ys : List ℕ) → n < 2 ^ 32 → m < 2 ^ 32 → to_be_bytes w32 n ++ xs ≡ to_be_bytes w32 m ++ ys → (n ≡ m) × (xs ≡ ys)
same_number n m xs ys low small e =
    let both : read (n, xs) ≡ read (m, ys) = sym (four_number.again n xs low) ∙ ap (number_at w32) e ∙ four_number.again m ys small in
    let pair : ◌≡◌ {A = ℕ × List ℕ} (n, xs) (m, ys) = cc in
    (ap (λ (p : ℕ × List ℕ). p.0) pair, ap (λ (p : ℕ × List ℕ). p.1) pair)

pub parts_one : (bytes first second other another : List ℕ) → HasParts bytes first second → HasParts bytes other another → (first ≡ other) × (second ≡ another)
parts_one bytes first second other another h k =
    let same = same_number (length first) (length other) (first ++ second) (other ++ another) h.short k.short (sym h.whole ∙ k.whole) in
    let len = same.0 in (
      sym (take_at first second (length other) len) ∙ ap (take (length other)) same.1 ∙ take_at other another (length other) refl,
      sym (drop_at first second (length other) len) ∙ ap (drop (length other)) same.1 ∙ drop_at other another (length other) refl,
    )

long_enough : (bytes first second : List ℕ) → HasParts bytes first second → 4 ≤ length bytes
long_enough bytes first second h =
    let whole = ap (length {A = ℕ}) h.whole ∙ length-append (to_be_bytes w32 (length first)) (first ++ second) in
    omega (arith, whole, four_number.wide (length first))

abbrev SomeParts : List ℕ → Type 0
SomeParts bytes = (first : List ℕ) × (second : List ℕ) × HasParts bytes first second

counted_parts : (bytes rest : List ℕ) (n : ℕ) → n < 2 ^ 32 → bytes ≡ to_be_bytes w32 n ++ rest → SomeParts bytes ⊎ HasNoParts bytes
counted_parts bytes rest n low is =
    elim (cases_lt (length rest) n) [
      | inl early ↦ inr (λ first second h.
          let same = same_number n (length first) rest (first ++ second) low h.short (sym is ∙ h.whole) in
          let len = ap (length {A = ℕ}) same.1 ∙ length-append first second in
          let number = same.0 in
          absurd (omega (arith, early, len, number)))
      | inr enough ↦ inl (
        take n rest,
        drop n rest,
        (let len : length (take n rest) ≡ n = omega (arith, length-take n rest, enough) in
            record { short = rw len low; whole = is ∙ ap₂ (λ (k : ℕ) (r : List ℕ). to_be_bytes w32 k ++ r) (sym len) (sym (take-append-drop n rest)) }),
      )
    ]

pub find_parts : (bytes : List ℕ) → AreBytes bytes → SomeParts bytes ⊎ HasNoParts bytes
find_parts bytes fit =
    elim (cases_lt (length bytes) 4) [
      | inl early ↦ inr (λ first second h. absurd (omega (arith, early, long_enough bytes first second h)))
      | inr long ↦
          (let number = four_number.all (take 4 bytes) (length-take-le 4 bytes long) (AreBytes-take 4 bytes fit) in
          counted_parts bytes (drop 4 bytes) number.0 number.1 (sym (take-append-drop 4 bytes) ∙ ap (λ (t : List ℕ). t ++ drop 4 bytes) (sym number.2)))
    ]

front_bytes : (bytes first second : List ℕ) → All (λ b. b < 256) bytes → HasParts bytes first second → All (λ b. b < 256) (first ++ second)
front_bytes bytes first second all h =
    let left = subst (λ (t : List ℕ). All (λ b. b < 256) (drop 4 t)) h.whole (All-drop (λ b. b < 256) 4 bytes all) in
    subst (λ (t : List ℕ). All (λ b. b < 256) t) (drop_at (to_be_bytes w32 (length first)) (first ++ second) 4 (four_number.wide (length first))) left

first_bytes : (bytes first second : List ℕ) → All (λ b. b < 256) bytes → HasParts bytes first second → All (λ b. b < 256) first
first_bytes bytes first second all h =
    subst (λ (t : List ℕ). All (λ b. b < 256) t) (take_at first second (length first) refl) (All-take (λ b. b < 256) (length first) (first ++ second) (front_bytes bytes first second all h))

second_bytes : (bytes first second : List ℕ) → All (λ b. b < 256) bytes → HasParts bytes first second → All (λ b. b < 256) second
second_bytes bytes first second all h =
    subst (λ (t : List ℕ). All (λ b. b < 256) t) (drop_at first second (length first) refl) (All-drop (λ b. b < 256) (length first) (first ++ second) (front_bytes bytes first second all h))

-- ---- the run

program_at : (first other : List ℕ) (image : Image) → first ≡ other → IsProgramImage first image → IsProgramImage other image
program_at first other image e p = subst (λ (t : List ℕ). IsProgramImage t image) e p

pub run_is_one : RunOfSpellingIsOne
run_is_one image other log another bytes h k =
    let same = parts_one bytes h.first h.second k.first k.second h.parts k.parts in (
      image_is_one image other k.first (program_at h.first k.first image same.0 h.program).spelled k.program.spelled,
      log_is_one log another k.second (subst (λ (t : List ℕ). SpellsLog log t) same.1 h.journal) k.journal,
    )

pub spelling_is_one : SpellingOfRunIsOne
spelling_is_one image log bytes others h k =
    let first : h.first ≡ k.first = h.program.spelled.spelled ∙ sym k.program.spelled.spelled in
    let second : h.second ≡ k.second = h.journal.spelled ∙ sym k.journal.spelled in
    h.parts.whole ∙ ap₂ file_of first second ∙ sym k.parts.whole

-- ---- the outcome

abbrev Run : Type 0
Run = Result (Image × Log) FileFault

-- what an image makes of the journal's outcome
abbrev of_log : Image → Result Log JournalFault → Run
of_log image (Ok log) = Ok (image, log)
of_log image (Err f) = Err (fault.Journal f)

-- what the image's outcome makes of the file
abbrev FileForm : List ℕ → Result Image LoadFault → Run → Type 0
FileForm second (Ok image) o = (q : Result Log JournalFault) × log_faults.IsOutcome second q × (o ≡ of_log image q)
FileForm second (Err f) o = o ≡ Err (fault.Image f)

form_one : (second : List ℕ) (r : Result Image LoadFault) (o p : Run) → All (λ b. b < 256) second → FileForm second r o → FileForm second r p → o ≡ p
form_one second (Ok image) o p all x y = x.2 ∙ ap (of_log image) (logs.outcome_is_one second x.0 y.0 all x.1 y.1) ∙ sym y.2
form_one second (Err f) o p all x y = x ∙ sym y

abbrev Formed : List ℕ → List ℕ → Run → Type 0
Formed first second o = (r : Result Image LoadFault) × image_faults.IsOutcome first r × FileForm second r o

formed : (bytes first second : List ℕ) (o : Run) → HasParts bytes first second → IsFileOutcome bytes o → Formed first second o
formed bytes first second (Ok run) h x =
    let same = parts_one bytes x.first x.second first second x.parts h in
    let p = program_at x.first first run.0 same.0 x.program in
    (Ok run.0, p, (Ok run.1, subst (λ (t : List ℕ). SpellsLog run.1 t) same.1 x.journal, refl))
formed bytes first second (Err (fault.Truncated at)) h x = absurd (x.0.1 first second h)
formed bytes first second (Err (fault.Image f)) h x =
    let k = x.0 in
    let same = parts_one bytes k.first k.second first second k.parts h in
    (Err f, (subst (λ (t : List ℕ). image_faults.IsFault t f) same.0 k.refused.0, k.refused.1), refl)
formed bytes first second (Err (fault.Journal f)) h x =
    let k = x.0 in
    let same = parts_one bytes k.first k.second first second k.parts h in
    let p = program_at k.first first k.image same.0 k.program in
    (Ok k.image, p, (Err f, (subst (λ (t : List ℕ). log_faults.IsBytesFault t f) same.1 k.refused.0, k.refused.1), refl))
formed bytes first second (Err fault.OutOfMemory) h x = absurd (x.1 refl)

unformed : (bytes : List ℕ) (o : Run) → HasNoParts bytes → IsFileOutcome bytes o → o ≡ Err (fault.Truncated (length bytes))
unformed bytes (Ok run) none x = absurd (none x.first x.second x.parts)
unformed bytes (Err (fault.Truncated at)) none x = ap (λ (n : ℕ). Err (fault.Truncated n)) x.0.0
unformed bytes (Err (fault.Image f)) none x = absurd (none x.0.first x.0.second x.0.parts)
unformed bytes (Err (fault.Journal f)) none x = absurd (none x.0.first x.0.second x.0.parts)
unformed bytes (Err fault.OutOfMemory) none x = absurd (x.1 refl)

formed_one : (first second : List ℕ) (o p : Run) → All (λ b. b < 256) first → All (λ b. b < 256) second → Formed first second o → Formed first second p → o ≡ p
formed_one first second o p all each x y =
    let same : y.0 ≡ x.0 = images.outcome_is_one first y.0 x.0 all y.1 x.1 in
    form_one second x.0 o p each x.2 (subst (λ (r : Result Image LoadFault). FileForm second r p) same y.2)

pub file_outcome_is_one : FileOutcomeIsOne
file_outcome_is_one bytes o p all x y =
    elim (find_parts bytes (are_bytes bytes all)) [
      | inl k ↦ formed_one k.0 k.1 o p (first_bytes bytes k.0 k.1 all k.2) (second_bytes bytes k.0 k.1 all k.2) (formed bytes k.0 k.1 o k.2 x) (formed bytes k.0 k.1 p k.2 y)
      | inr none ↦ unformed bytes o none x ∙ sym (unformed bytes p none y)
    ]

some_journal : (bytes first second : List ℕ) (image : Image) (q : Result Log JournalFault) → HasParts bytes first second → IsProgramImage first image → log_faults.IsOutcome second q → IsFileOutcome bytes (of_log image q)
some_journal bytes first second image (Ok log) h p x = record { first = first; second = second; parts = h; program = p; journal = x }
some_journal bytes first second image (Err f) h p x = (record { image = image; first = first; second = second; parts = h; program = p; refused = (x.0, x.1) }, λ e. cc)

some_image : (bytes first second : List ℕ) (r : Result Image LoadFault) → HasParts bytes first second → All (λ b. b < 256) second → image_faults.IsOutcome first r → (o : Run) × IsFileOutcome bytes o
some_image bytes first second (Ok image) h all x =
    let q = logs.some_outcome second all in
    (of_log image q.0, some_journal bytes first second image q.0 h x q.1)
some_image bytes first second (Err f) h all x =
    (Err (fault.Image f), (record { first = first; second = second; parts = h; refused = (x.0, x.1) }, λ e. cc))

pub files_have_an_outcome : FilesHaveAnOutcome
files_have_an_outcome bytes all =
    elim (find_parts bytes (are_bytes bytes all)) [
      | inl k ↦ (let r = images.some_outcome k.0 (first_bytes bytes k.0 k.1 all k.2) in
          some_image bytes k.0 k.1 r.0 k.2 (second_bytes bytes k.0 k.1 all k.2) r.1)
      | inr none ↦ (Err (fault.Truncated (length bytes)), ((refl, none), λ e. cc))
    ]

-- ---- what `get_run` says of a run that is spelled

pub part_fault : (bytes first second : List ℕ) (f : FileFault) → HasParts bytes first second → IsPartFault first f → IsFileFault bytes f
part_fault bytes first second (fault.Truncated at) h x = absurd x
part_fault bytes first second (fault.Image f) h x = record { first = first; second = second; parts = h; refused = x }
part_fault bytes first second (fault.Journal f) h x = absurd x
part_fault bytes first second fault.OutOfMemory h x = record { first = first; second = second; parts = h; memory = x }

pub log_fault : (bytes first second : List ℕ) (image : Image) (f : FileFault) → HasParts bytes first second → IsProgramImage first image → IsLogFault second f → IsFileFault bytes f
log_fault bytes first second image (fault.Truncated at) h p x = absurd x
log_fault bytes first second image (fault.Image f) h p x = absurd x
log_fault bytes first second image (fault.Journal f) h p x = record { image = image; first = first; second = second; parts = h; program = p; refused = x }
log_fault bytes first second image fault.OutOfMemory h p x = record { first = first; second = second; parts = h; memory = (image, p.spelled, verified_short image p.verified) }

refused_or_memory : (bytes : List ℕ) (f : FileFault) → AreBytes bytes → IsFileFault bytes f → (image : Image) (log : Log) → SpellsRun image log bytes
    → (◌≡◌ {A = Run} (Err f) (Ok (image, log))) ⊎ (◌≡◌ {A = Run} (Err f) (Err fault.OutOfMemory))
refused_or_memory bytes fault.OutOfMemory fit x image log s = inr refl
refused_or_memory bytes (fault.Truncated at) fit x image log s = absurd (x.1 s.first s.second s.parts)
refused_or_memory bytes (fault.Image f) fit x image log s =
    inl (file_outcome_is_one bytes (Err (fault.Image f)) (Ok (image, log)) (all_bytes bytes fit) (x, λ e. cc) s)
refused_or_memory bytes (fault.Journal f) fit x image log s =
    inl (file_outcome_is_one bytes (Err (fault.Journal f)) (Ok (image, log)) (all_bytes bytes fit) (x, λ e. cc) s)

-- a run that is spelled is the answer, unless memory was refused
pub only_run : (bytes : List ℕ) (r : Run) → AreBytes bytes → IfOk r (λ run. SpellsRun run.0 run.1 bytes) → IfErr r (IsFileFault bytes) → (image : Image) (log : Log) → SpellsRun image log bytes
    → (r ≡ Ok (image, log)) ⊎ (r ≡ Err fault.OutOfMemory)
only_run bytes (Ok run) fit found refused image log s =
    let same = run_is_one run.0 image run.1 log bytes found s in
    inl (ap₂ (λ (i : Image) (l : Log). Ok (i, l)) same.0 same.1)
only_run bytes (Err f) fit found refused image log s = refused_or_memory bytes f fit refused image log s
