-- Machinery of the proofs, not of the promise: reading a journal from front to back, to the first field that is
-- cut or bad, as the readers of src/ compute it (docs/JOURNAL.md, "Bytes"). The lemmas of proofs/ lead from here to the
-- relations of specs/Bytes and specs/Faults, which contracts cite.
use Rattle.std.specs.Prelude.{ℕ, zero, suc, Bool, nat_lt, nat_le, ◌==◌, ◌&&◌, if◌then◌else◌, List, length, Result, Ok}
use Rattle.std.specs.Int.{w16, w32, cast_signed}
use Rattle.asl_code.specs.Versions.{newest_threads, version_for}
use Rattle.asl_code.specs.declared.value.Value.{Value}
use Rattle.asl_code.specs.declared.value.Value.TheVariants.{Int, Null, Addr}
use Rattle.asl_machine.specs.declared.fault.Fault.{Fault}
use Rattle.asl_machine.specs.declared.fault.Fault.TheVariants as fault
use Rattle.asl_machine.specs.declared.reply.Reply.{Reply}
use Rattle.asl_machine.specs.declared.reply.Reply.TheVariants as reply
use Rattle.asl_loader.specs.declared.fault.Stop.{Stop}
use Rattle.asl_loader.specs.SharedFields.{◌>>=◌, passed, byte_at, number_at, letters_at, version_at, below_at, effect_at}
use Rattle.asl_loader.specs.ImageFields.{items_at, whole_from}
use Rattle.asl_journal.specs.declared.event.Event.{Event}
use Rattle.asl_journal.specs.declared.fault.JournalFault.{JournalFault}
use Rattle.asl_journal.specs.declared.fault.JournalFault.TheVariants.{Magic, Version, Truncated, BadField, Trailing}
use Rattle.asl_journal.specs.Journal.{Log, most_events}

-- whether there may be so many threads in a file of this version
abbrev pub is_count : ℕ → ℕ → Bool
is_count version n = nat_lt 0 n && nat_le n newest_threads && version_for n == version

-- how many threads, in a file of this version
unfoldable pub threads_at : ℕ → List ℕ → Result (ℕ × List ℕ) Stop
threads_at version bytes = do
  n ← byte_at bytes
  passed (is_count version n.0) n bytes

-- how many events
unfoldable pub count_at : List ℕ → Result (ℕ × List ℕ) Stop
count_at bytes = do
  n ← number_at w32 bytes
  passed (nat_le n.0 most_events) n bytes

-- the rest of a value of this kind
unfoldable pub value_of : ℕ → List ℕ → Result (Value × List ℕ) Stop
value_of zero bytes = do
  n ← number_at w32 bytes
  Ok (Int (cast_signed w32 n.0), n.1)
value_of (suc zero) bytes = Ok (Null, bytes)
value_of (suc (suc kind)) bytes = do
  object ← number_at w16 bytes
  offset ← byte_at object.1
  Ok (Addr object.0 offset.0, offset.1)

-- a value
unfoldable pub value_at : List ℕ → Result (Value × List ℕ) Stop
value_at bytes = do
  kind ← below_at 3 bytes
  value_of kind.0 kind.1

-- the cell and the effect of an unprotected access
unfoldable pub unprotected_at : List ℕ → Result (Fault × List ℕ) Stop
unprotected_at bytes = do
  object ← number_at w16 bytes
  offset ← byte_at object.1
  effect ← effect_at offset.1
  Ok (fault.Unprotected (record { object = object.0; offset = offset.0 }) effect.0, effect.1)

-- the rest of a fault of this number
unfoldable pub fault_of : ℕ → List ℕ → Result (Fault × List ℕ) Stop
fault_of zero bytes = Ok (fault.BadType, bytes)
fault_of (suc zero) bytes = Ok (fault.Null, bytes)
fault_of (suc (suc zero)) bytes = Ok (fault.Bounds, bytes)
fault_of (suc (suc (suc zero))) bytes = unprotected_at bytes
fault_of (suc (suc (suc (suc zero)))) bytes = Ok (fault.Full, bytes)
fault_of (suc (suc (suc (suc (suc zero))))) bytes = Ok (fault.Stack, bytes)
fault_of (suc (suc (suc (suc (suc (suc zero)))))) bytes = Ok (fault.Open, bytes)
fault_of (suc (suc (suc (suc (suc (suc (suc zero))))))) bytes = Ok (fault.Deep, bytes)
fault_of (suc (suc (suc (suc (suc (suc (suc (suc number)))))))) bytes = Ok (fault.NoSection, bytes)

-- a fault
unfoldable pub fault_at : List ℕ → Result (Fault × List ℕ) Stop
fault_at bytes = do
  number ← below_at 9 bytes
  fault_of number.0 number.1

-- the rest of a reply of this number
unfoldable pub reply_of : ℕ → List ℕ → Result (Reply × List ℕ) Stop
reply_of zero bytes = Ok (reply.Ran, bytes)
reply_of (suc zero) bytes = do
  value ← value_at bytes
  Ok (reply.Out value.0, value.1)
reply_of (suc (suc zero)) bytes = Ok (reply.Blocked, bytes)
reply_of (suc (suc (suc zero))) bytes = Ok (reply.Ended, bytes)
reply_of (suc (suc (suc (suc number)))) bytes = do
  f ← fault_at bytes
  Ok (reply.Fault f.0, f.1)

-- a reply
unfoldable pub reply_at : List ℕ → Result (Reply × List ℕ) Stop
reply_at bytes = do
  number ← below_at 5 bytes
  reply_of number.0 number.1

-- an event of one of so many threads
unfoldable pub event_at : ℕ → List ℕ → Result (Event × List ℕ) Stop
event_at threads bytes = do
  thread ← below_at threads bytes
  r ← reply_at thread.1
  Ok (record { thread = thread.0; reply = r.0 }, r.1)

-- a journal
unfoldable pub log_at : List ℕ → Result (Log × List ℕ) Stop
log_at bytes = do
  front ← letters_at 1095978058 bytes
  v ← version_at front.1
  threads ← threads_at v.0 v.1
  count ← count_at threads.1
  events ← items_at (event_at threads.0) count.0 count.1
  Ok (record { threads = threads.0; events = events.0 }, events.1)

-- the fault of a bad byte
abbrev pub bad_fault : ℕ → JournalFault
bad_fault at = if at == 0 then Magic else if at == 4 then Version else BadField at

-- the journal of all the bytes
unfoldable pub whole_of : List ℕ → Result Log JournalFault
whole_of bytes = whole_from (λ n. Truncated n) bad_fault (λ n. Trailing n) (length bytes) (log_at bytes)
