-- What is wrong with bytes that are those of no journal, and what the one outcome of bytes is (docs/JOURNAL.md, "Bytes").
use Rattle.std.specs.Prelude.{◌≡◌, ◌≢◌, ℕ, ◌<◌, List, length, take, All, Result, Ok, Err}
use Rattle.asl_loader.specs.Bytes.{EndsWithin, HasBadByte}
use Rattle.asl_journal.specs.declared.fault.JournalFault.{JournalFault}
use Rattle.asl_journal.specs.declared.fault.JournalFault.TheVariants.{Magic, Version, Truncated, BadField, Trailing, OutOfMemory}
use Rattle.asl_journal.specs.Journal.{Log}
use Rattle.asl_journal.specs.Bytes.{log_fields, HasBytes, SpellsLog}

-- no journal has the field of this byte, and all before it are a journal's
abbrev pub IsBadLogByte : List ℕ → ℕ → Type 0
IsBadLogByte bytes at = HasBadByte Log HasBytes log_fields bytes at

-- The fault is the first thing that is wrong with the bytes, from front to back. The field at byte 0 is the letters,
-- and the one at byte 4 the version. Running out of memory hides nothing that is wrong with the bytes: they spell a journal.
abbrev pub IsBytesFault : List ℕ → JournalFault → Type 0
IsBytesFault bytes Magic = IsBadLogByte bytes 0
IsBytesFault bytes Version = IsBadLogByte bytes 4
IsBytesFault bytes (Truncated at) = (at ≡ length bytes) × EndsWithin Log HasBytes log_fields bytes
IsBytesFault bytes (BadField at) = (at ≢ 0) × (at ≢ 4) × IsBadLogByte bytes at
IsBytesFault bytes (Trailing at) = (at < length bytes) × ((log : Log) × SpellsLog log (take at bytes))
IsBytesFault bytes OutOfMemory = (log : Log) × SpellsLog log bytes
IsBytesFault bytes fault = ⊥

-- The outcome of the bytes, where memory is there: the journal that they spell, or the refusal that they meet.
abbrev pub IsOutcome : List ℕ → Result Log JournalFault → Type 0
IsOutcome bytes (Ok log) = SpellsLog log bytes
IsOutcome bytes (Err fault) = IsBytesFault bytes fault × (fault ≢ OutOfMemory)

-- any bytes have an outcome
abbrev pub BytesHaveAnOutcome : Type 0
BytesHaveAnOutcome = (bytes : List ℕ) → All (λ b. b < 256) bytes → (outcome : Result Log JournalFault) × IsOutcome bytes outcome

-- and they have no other
abbrev pub OutcomeIsOne : Type 0
OutcomeIsOne =
    (bytes : List ℕ) (outcome other : Result Log JournalFault) → All (λ b. b < 256) bytes → IsOutcome bytes outcome → IsOutcome bytes other
    → outcome ≡ other
