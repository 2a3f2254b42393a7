-- Run files: an image's length, the image, and a journal (docs/JOURNAL.md, "Run files").
use Rattle.std.specs.Prelude.{◌≡◌, ◌≢◌, ℕ, ◌<◌, ◌^◌, ◌++◌, List, length, All, Result, Ok, Err}
use Rattle.std.specs.Int.{w32, to_be_bytes}
use Rattle.asl_code.specs.declared.image.Image.{Image}
use Rattle.asl_loader.specs.declared.fault.LoadFault.{LoadFault}
use Rattle.asl_loader.specs.declared.fault.LoadFault.TheVariants as load
use Rattle.asl_loader.specs.Bytes.{text_of, image_fields}
use Rattle.asl_loader.specs.Faults.{IsProgramImage}
use Rattle.asl_loader.specs.Faults as image_faults
use Rattle.asl_journal.specs.declared.fault.JournalFault.{JournalFault}
use Rattle.asl_journal.specs.declared.fault.JournalFault.TheVariants as journal
use Rattle.asl_journal.specs.Journal.{Log}
use Rattle.asl_journal.specs.Bytes.{log_fields, SpellsLog}
use Rattle.asl_journal.specs.Faults as log_faults
use Rattle.asl_journal.specs.declared.run_file.FileFault.{FileFault}
use Rattle.asl_journal.specs.declared.run_file.FileFault.TheVariants as fault

-- a file of two parts: the first one's length in four bytes, and both
abbrev pub file_of : List ℕ → List ℕ → List ℕ
file_of image events = to_be_bytes w32 (length image) ++ (image ++ events)

-- the bytes are a file of these two parts
pub record HasParts (bytes image events : List ℕ) : Type 0 where
  pub short : length image < 2 ^ 32
  pub whole : bytes ≡ file_of image events

-- the bytes are a file of no two parts: they end before the first one does
abbrev pub HasNoParts : List ℕ → Type 0
HasNoParts bytes = (image events : List ℕ) → HasParts bytes image events → ⊥

-- the bytes of a program's run
abbrev pub run_bytes : Image → Log → List ℕ
run_bytes image log = file_of (text_of (image_fields image)) (text_of (log_fields log))

-- the bytes spell the program and the journal: they are a file of the program's image and the journal's bytes
pub record SpellsRun (image : Image) (log : Log) (bytes : List ℕ) : Type 0 where
  pub first : List ℕ
  pub second : List ℕ
  pub parts : HasParts bytes first second
  pub program : IsProgramImage first image
  pub journal : SpellsLog log second

-- what each refusal of the image's part says of it
abbrev pub IsPartFault : List ℕ → FileFault → Type 0
IsPartFault first (fault.Image cause) = image_faults.IsFault first cause × (cause ≢ load.OutOfMemory)
IsPartFault first fault.OutOfMemory = image_faults.IsFault first load.OutOfMemory
IsPartFault first f = ⊥

-- what each refusal of the journal's part says of it
abbrev pub IsLogFault : List ℕ → FileFault → Type 0
IsLogFault second (fault.Journal cause) = log_faults.IsBytesFault second cause × (cause ≢ journal.OutOfMemory)
IsLogFault second fault.OutOfMemory = log_faults.IsBytesFault second journal.OutOfMemory
IsLogFault second f = ⊥

-- the image's part is refused
pub record HasBadImage (bytes : List ℕ) (cause : LoadFault) : Type 0 where
  pub first : List ℕ
  pub second : List ℕ
  pub parts : HasParts bytes first second
  pub refused : IsPartFault first (fault.Image cause)

-- the image's part is a program's, and the journal's part is refused
pub record HasBadJournal (bytes : List ℕ) (cause : JournalFault) : Type 0 where
  pub image : Image
  pub first : List ℕ
  pub second : List ℕ
  pub parts : HasParts bytes first second
  pub program : IsProgramImage first image
  pub refused : IsLogFault second (fault.Journal cause)

-- the image's part spells an image, of a program or not, with no more lists, nor more locks in one, than a program has
pub record HasImage (bytes : List ℕ) : Type 0 where
  pub first : List ℕ
  pub second : List ℕ
  pub parts : HasParts bytes first second
  pub memory : IsPartFault first fault.OutOfMemory

-- what each refusal says of the bytes: they end before the image does, or a part of them is refused, the image's first;
-- lack of memory hides neither bytes that end too early nor an image's part that spells none
abbrev pub IsFileFault : List ℕ → FileFault → Type 0
IsFileFault bytes (fault.Truncated at) = (at ≡ length bytes) × HasNoParts bytes
IsFileFault bytes (fault.Image cause) = HasBadImage bytes cause
IsFileFault bytes (fault.Journal cause) = HasBadJournal bytes cause
IsFileFault bytes fault.OutOfMemory = HasImage bytes

-- the outcome of the bytes, where memory is there: the run that they spell, or the refusal that they meet
abbrev pub IsFileOutcome : List ℕ → Result (Image × Log) FileFault → Type 0
IsFileOutcome bytes (Ok run) = SpellsRun run.0 run.1 bytes
IsFileOutcome bytes (Err f) = IsFileFault bytes f × (f ≢ fault.OutOfMemory)

-- a spelling is of one run
abbrev pub RunOfSpellingIsOne : Type 0
RunOfSpellingIsOne =
    (image other : Image) (log another : Log) (bytes : List ℕ) → SpellsRun image log bytes → SpellsRun other another bytes
    → (image ≡ other) × (log ≡ another)

-- a run has one spelling
abbrev pub SpellingOfRunIsOne : Type 0
SpellingOfRunIsOne = (image : Image) (log : Log) (bytes others : List ℕ) → SpellsRun image log bytes → SpellsRun image log others → bytes ≡ others

-- any bytes have an outcome
abbrev pub FilesHaveAnOutcome : Type 0
FilesHaveAnOutcome = (bytes : List ℕ) → All (λ b. b < 256) bytes → (outcome : Result (Image × Log) FileFault) × IsFileOutcome bytes outcome

-- and they have no other
abbrev pub FileOutcomeIsOne : Type 0
FileOutcomeIsOne =
    (bytes : List ℕ) (outcome other : Result (Image × Log) FileFault) → All (λ b. b < 256) bytes → IsFileOutcome bytes outcome
    → IsFileOutcome bytes other → outcome ≡ other
