-- The bytes of a journal, field by field, and which journal bytes spell (docs/JOURNAL.md, "Bytes"). Fields, and where bytes
-- end within one or have a bad one, are those of images.
use Rattle.std.specs.Prelude.{◌≡◌, ℕ, ◌<◌, ◌^◌, List, [], ◌∷◌, length}
use Rattle.std.specs.List.{flat_map, AllByRecursion}
use Rattle.std.specs.Int.{w32, to_be_bytes, cast_unsigned}
use Rattle.asl_code.specs.Spelling.{IsValue}
use Rattle.asl_code.specs.Versions.{version_for}
use Rattle.asl_code.specs.declared.value.Value.{Value}
use Rattle.asl_code.specs.declared.value.Value.TheVariants.{Int, Null, Addr}
use Rattle.asl_machine.specs.declared.fault.Fault.{Fault}
use Rattle.asl_machine.specs.declared.fault.Fault.TheVariants as fault
use Rattle.asl_machine.specs.declared.reply.Reply.{Reply}
use Rattle.asl_machine.specs.declared.reply.Reply.TheVariants as reply
use Rattle.asl_loader.specs.Bytes.{Field, Plain, text_of, one, two, effect_field}
use Rattle.asl_journal.specs.declared.event.Event.{Event}
use Rattle.asl_journal.specs.Journal.{Log, IsLog}

-- a field of four bytes
abbrev pub four : ℕ → Field
four n = Plain (to_be_bytes w32 n)

-- a value: its kind, and then the integer or the cell
abbrev pub value_fields : Value → List Field
value_fields (Int n) = one 0 ∷ four (cast_unsigned w32 n) ∷ []
value_fields Null = one 1 ∷ []
value_fields (Addr object offset) = one 2 ∷ two object ∷ one offset ∷ []

-- a fault: its number, and then what it names
abbrev pub fault_fields : Fault → List Field
fault_fields fault.BadType = one 0 ∷ []
fault_fields fault.Null = one 1 ∷ []
fault_fields fault.Bounds = one 2 ∷ []
fault_fields (fault.Unprotected cell effect) = one 3 ∷ two cell.object ∷ one cell.offset ∷ effect_field effect ∷ []
fault_fields fault.Full = one 4 ∷ []
fault_fields fault.Stack = one 5 ∷ []
fault_fields fault.Open = one 6 ∷ []
fault_fields fault.Deep = one 7 ∷ []
fault_fields fault.NoSection = one 8 ∷ []

-- a reply: its number, and then the value or the fault
abbrev pub reply_fields : Reply → List Field
reply_fields reply.Ran = one 0 ∷ []
reply_fields (reply.Out value) = one 1 ∷ value_fields value
reply_fields reply.Blocked = one 2 ∷ []
reply_fields reply.Ended = one 3 ∷ []
reply_fields (reply.Fault f) = one 4 ∷ fault_fields f

-- an event: the thread and the reply
abbrev pub event_fields : Event → List Field
event_fields event = one event.thread ∷ reply_fields event.reply

-- the four bytes of the letters ASLJ
abbrev pub letters : Field
letters = Plain (65 ∷ 83 ∷ 76 ∷ 74 ∷ [])

-- a journal: the letters, the first version that has so many threads, how many threads, how many events, and the events
abbrev pub log_fields : Log → List Field
log_fields log = letters ∷ two (version_for log.threads) ∷ one log.threads ∷ four (length log.events) ∷ flat_map event_fields log.events

-- the numbers of a fault fit their fields
abbrev pub IsFault : Fault → Type 0
IsFault (fault.Unprotected cell effect) = (cell.object < 2 ^ 16) × (cell.offset < 256)
IsFault f = Unit {0}

-- the numbers of a reply fit their fields
abbrev pub IsReply : Reply → Type 0
IsReply (reply.Out value) = IsValue value
IsReply (reply.Fault f) = IsFault f
IsReply r = Unit {0}

-- an event of one of so many threads, whose numbers fit their fields
pub record IsEvent (threads : ℕ) (event : Event) : Type 0 where
  pub there : event.thread < threads
  pub fits : IsReply event.reply

-- a journal whose numbers fit their fields
pub record HasBytes (log : Log) : Type 0 where
  pub is_log : IsLog log
  pub each : AllByRecursion (IsEvent log.threads) log.events

-- the bytes spell the journal
pub record SpellsLog (log : Log) (bytes : List ℕ) : Type 0 where
  pub fits : HasBytes log
  pub spelled : bytes ≡ text_of (log_fields log)

-- a spelling is of one journal
abbrev pub LogOfSpellingIsOne : Type 0
LogOfSpellingIsOne = (log other : Log) (bytes : List ℕ) → SpellsLog log bytes → SpellsLog other bytes → log ≡ other

-- a journal has one spelling
abbrev pub SpellingOfLogIsOne : Type 0
SpellingOfLogIsOne = (log : Log) (bytes others : List ℕ) → SpellsLog log bytes → SpellsLog log others → bytes ≡ others
