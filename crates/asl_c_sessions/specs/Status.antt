-- What a call on a session (src/session_exports) answers, and what it leaves of the session (docs/EMBEDDING.md, "Sessions from C").
use Rattle.std.specs.Prelude.{◌≡◌, ◌≢◌, ◌<◌, ◌≤◌, ◌+◌, ◌↔◌, ◌⊎◌, ℕ, List, length, take, Result, Ok, Err}
use Rattle.asl_machine.specs.declared.reply.Reply.{Reply}
use Rattle.asl_journal.specs.Journal.{IsJournal, most_events, with_event}
use Rattle.asl_journal.specs.RunFile.{SpellsRun}
use Rattle.asl_debugger.specs.declared.fault.StepFault.{StepFault}
use Rattle.asl_debugger.specs.declared.fault.StepFault.TheVariants as step
use Rattle.asl_debugger.specs.declared.fault.DebugFault.{DebugFault}
use Rattle.asl_debugger.specs.declared.fault.DebugFault.TheVariants as debug
use Rattle.asl_c_memory.specs.Buffer.{Holds}
use Rattle.asl_debugger.specs.Session.{Session, IsStepBetween, moved, recorded}
use Rattle.asl_c_sessions.specs.declared.pages.Page.{Page}
use Rattle.asl_c_sessions.specs.Pages.{IsPage}

-- the status of a step's answer
abbrev pub step_status : Result Reply StepFault → ℕ
step_status (Ok reply) = 0
step_status (Err step.OutOfMemory) = 2
step_status (Err step.BadThread) = 4
step_status (Err step.NotAtEnd) = 14
step_status (Err step.JournalFull) = 15

-- the status of a move's answer
abbrev pub move_status : Result (Unit {0}) DebugFault → ℕ
move_status (Ok done) = 0
move_status (Err debug.NoSuchStep) = 13
move_status (Err fault) = 2

-- the session after a step of the thread with this reply, which is written down; its events are a journal of the program
pub record IsBehindStep (s : Session) (t : ℕ) (reply : Reply) (new : Session) : Type 0 where
  pub event : new ≡ recorded s (with_event s.log (record { thread = t; reply = reply })) (s.position + 1)
  pub step : IsStepBetween s new t reply
  pub journal : IsJournal new.image new.log.threads new.log.events

-- 0: the thread has stepped. Else nothing has changed, and it is 14: events follow; else 15: the journal is full; else 4: there is
-- no such thread; else 2: there was no memory
pub record IsStepped (s : Session) (t status : ℕ) (new : Session) : Type 0 where
  pub done : status ≡ 0 → (reply : Reply) × IsBehindStep s t reply new
  pub end : (status ≡ 14) ↔ (s.position ≢ length s.log.events)
  pub full : (status ≡ 15) ↔ ((s.position ≡ length s.log.events) × (length s.log.events ≡ most_events))
  pub stranger : (status ≡ 4) ↔ ((s.position ≡ length s.log.events) × (length s.log.events < most_events) × (s.log.threads ≤ t))
  pub other : (status ≡ 0) ⊎ (status ≡ 2) ⊎ (status ≡ 4) ⊎ (status ≡ 14) ⊎ (status ≡ 15)
  pub same : status ≢ 0 → new ≡ s

-- 0: this is left, and it is no other where the session is at the position. Else nothing has changed, and it is 13: there is no such
-- position; else 2: there was no memory
pub record IsMovedTo (s wanted : Session) (k status : ℕ) (new : Session) : Type 0 where
  pub done : status ≡ 0 → new ≡ wanted
  pub here : k ≡ s.position → status ≡ 0
  pub none : (status ≡ 13) ↔ (length s.log.events < k)
  pub other : (status ≡ 0) ⊎ (status ≡ 2) ⊎ (status ≡ 13)
  pub same : status ≢ 0 → new ≡ s

-- 0: the position is k
abbrev pub IsGone : Session → ℕ → ℕ → Session → Type 0
IsGone s k status new = IsMovedTo s (moved s k) k status new

-- 0: the position is k, and the events after it are forgotten
abbrev pub IsCut : Session → ℕ → ℕ → Session → Type 0
IsCut s k status new = IsMovedTo s (recorded s (record { threads = s.log.threads; events = take k s.log.events }) k) k status new

-- 0: the buffer holds the text as far as it has room, and its whole length is told. Else it is 2: there was no memory
pub record IsTold (text old new : List ℕ) (told status : ℕ) : Type 0 where
  pub done : status ≡ 0 → Holds text old new × (told ≡ length text)
  pub other : (status ≡ 0) ⊎ (status ≡ 2)

-- 0: the buffer holds the page of the machine at the session's position, as far as it has room, and its whole length is told. Else
-- it is 2: there was no memory
pub record IsPageTold (page : Page) (s : Session) (old new : List ℕ) (told status : ℕ) : Type 0 where
  pub done : status ≡ 0 → (text : List ℕ) × IsPage page s text × Holds text old new × (told ≡ length text)
  pub other : (status ≡ 0) ⊎ (status ≡ 2)

-- 0: there are bytes that spell the session's program and its whole journal, wherever its position is; the buffer holds them as far as
-- it has room, and their whole length is told. Else it is 2: there was no memory
pub record IsRunFileTold (s : Session) (old new : List ℕ) (told status : ℕ) : Type 0 where
  pub done : status ≡ 0 → (file : List ℕ) × SpellsRun s.image s.log file × Holds file old new × (told ≡ length file)
  pub other : (status ≡ 0) ⊎ (status ≡ 2)
