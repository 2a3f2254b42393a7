-- What the status of a call tells, from what its answer tells.
use Rattle.std.proofs.Common.{◌≡◌, ◌≢◌, ℕ, ◌+◌, ◌<◌, ◌≤◌, ◌⊎◌, ⊎_elim, length, refl, arith}
use Rattle.std.specs.Prelude.{◌↔◌, Result, Ok, Err, IfOk, IfErr, IsOk, OnOk, OnErr, IsErrOf}
use Rattle.asl_machine.specs.declared.reply.Reply.{Reply}
use Rattle.asl_journal.specs.Journal.{IsJournal, most_events, with_event}
use Rattle.asl_debugger.specs.declared.fault.StepFault.{StepFault}
use Rattle.asl_debugger.specs.declared.fault.StepFault.TheVariants as step
use Rattle.asl_debugger.specs.declared.fault.DebugFault.{DebugFault}
use Rattle.asl_debugger.specs.declared.fault.DebugFault.TheVariants as debug
use Rattle.asl_debugger.specs.Session.{Session, IsStepBetween, recorded}
use Rattle.asl_c_sessions.specs.Status.{step_status, move_status, IsBehindStep, IsStepped, IsMovedTo}

through : {A B C : Type 0} → (A ↔ B) → (B ↔ C) → A ↔ C
through p q = (λ a. q.0 (p.0 a), λ c. p.1 (q.1 c))

-- ---- a step

end_told : (a : Result Reply StepFault) → (step_status a ≡ 14) ↔ IsErrOf a step.NotAtEnd
end_told (Ok reply) = (λ e. absurd (omega arith), λ e. absurd cc)
end_told (Err step.OutOfMemory) = (λ e. absurd (omega arith), λ e. absurd cc)
end_told (Err step.BadThread) = (λ e. absurd (omega arith), λ e. absurd cc)
end_told (Err step.NotAtEnd) = (λ e. refl, λ e. refl)
end_told (Err step.JournalFull) = (λ e. absurd (omega arith), λ e. absurd cc)

full_told : (a : Result Reply StepFault) → (step_status a ≡ 15) ↔ IsErrOf a step.JournalFull
full_told (Ok reply) = (λ e. absurd (omega arith), λ e. absurd cc)
full_told (Err step.OutOfMemory) = (λ e. absurd (omega arith), λ e. absurd cc)
full_told (Err step.BadThread) = (λ e. absurd (omega arith), λ e. absurd cc)
full_told (Err step.NotAtEnd) = (λ e. absurd (omega arith), λ e. absurd cc)
full_told (Err step.JournalFull) = (λ e. refl, λ e. refl)

stranger_told : (a : Result Reply StepFault) → (step_status a ≡ 4) ↔ IsErrOf a step.BadThread
stranger_told (Ok reply) = (λ e. absurd (omega arith), λ e. absurd cc)
stranger_told (Err step.OutOfMemory) = (λ e. absurd (omega arith), λ e. absurd cc)
stranger_told (Err step.BadThread) = (λ e. refl, λ e. refl)
stranger_told (Err step.NotAtEnd) = (λ e. absurd (omega arith), λ e. absurd cc)
stranger_told (Err step.JournalFull) = (λ e. absurd (omega arith), λ e. absurd cc)

step_others : (a : Result Reply StepFault) → (step_status a ≡ 0) ⊎ (step_status a ≡ 2) ⊎ (step_status a ≡ 4) ⊎ (step_status a ≡ 14) ⊎ (step_status a ≡ 15)
step_others (Ok reply) = search arith
step_others (Err step.OutOfMemory) = search arith
step_others (Err step.BadThread) = search arith
step_others (Err step.NotAtEnd) = search arith
step_others (Err step.JournalFull) = search arith

-- want of memory has a status of its own
pub step_memory : (a : Result Reply StepFault) → step_status a ≡ 2 → IsErrOf a step.OutOfMemory
step_memory (Ok reply) two = absurd (omega arith)
step_memory (Err step.OutOfMemory) two = refl
step_memory (Err step.BadThread) two = absurd (omega arith)
step_memory (Err step.NotAtEnd) two = absurd (omega arith)
step_memory (Err step.JournalFull) two = absurd (omega arith)

step_made : (s new : Session) (t : ℕ) (a : Result Reply StepFault)
    → IfOk a (λ reply. new ≡ recorded s (with_event s.log (record { thread = t; reply = reply })) (s.position + 1))
    → IfOk a (λ reply. IsStepBetween s new t reply)
    → IsJournal new.image new.log.threads new.log.events → step_status a ≡ 0 → (reply : Reply) × IsBehindStep s t reply new
step_made s new t (Ok reply) event steps journal zero = (reply, record { event = event; step = steps; journal = journal })
step_made s new t (Err step.OutOfMemory) event steps journal zero = absurd (omega arith)
step_made s new t (Err step.BadThread) event steps journal zero = absurd (omega arith)
step_made s new t (Err step.NotAtEnd) event steps journal zero = absurd (omega arith)
step_made s new t (Err step.JournalFull) event steps journal zero = absurd (omega arith)

step_kept : (P : Type 0) (a : Result Reply StepFault) → OnErr a P → step_status a ≢ 0 → P
step_kept P (Ok reply) same some = absurd (some refl)
step_kept P (Err fault) same some = same

-- no step is told as a closed session
pub step_other : (a : Result Reply StepFault) → step_status a ≢ 3
step_other (Ok reply) = λ e. omega arith
step_other (Err step.OutOfMemory) = λ e. omega arith
step_other (Err step.BadThread) = λ e. omega arith
step_other (Err step.NotAtEnd) = λ e. omega arith
step_other (Err step.JournalFull) = λ e. omega arith

pub stepped : (s new : Session) (t : ℕ) (a : Result Reply StepFault)
    → IfOk a (λ reply. new ≡ recorded s (with_event s.log (record { thread = t; reply = reply })) (s.position + 1))
    → IfOk a (λ reply. IsStepBetween s new t reply)
    → (IsErrOf a step.NotAtEnd ↔ (s.position ≢ length s.log.events))
    → (IsErrOf a step.JournalFull ↔ ((s.position ≡ length s.log.events) × (length s.log.events ≡ most_events)))
    → (IsErrOf a step.BadThread ↔ ((s.position ≡ length s.log.events) × (length s.log.events < most_events) × (s.log.threads ≤ t)))
    → OnErr a (new ≡ s) → IsJournal new.image new.log.threads new.log.events → IsStepped s t (step_status a) new
stepped s new t a event steps end full stranger err journal = record {
  done = step_made s new t a event steps journal;
  end = through (end_told a) end;
  full = through (full_told a) full;
  stranger = through (stranger_told a) stranger;
  other = step_others a;
  same = step_kept (new ≡ s) a err;
}

-- ---- a move

none_told : (a : Result (Unit {0}) DebugFault) → (move_status a ≡ 13) ↔ IsErrOf a debug.NoSuchStep
none_told (Ok done) = (λ e. absurd (omega arith), λ e. absurd cc)
none_told (Err debug.AtEnd) = (λ e. absurd (omega arith), λ e. absurd cc)
none_told (Err debug.AtStart) = (λ e. absurd (omega arith), λ e. absurd cc)
none_told (Err debug.NoSuchStep) = (λ e. refl, λ e. refl)
none_told (Err (debug.Differs index)) = (λ e. absurd (omega arith), λ e. absurd cc)
none_told (Err debug.OutOfMemory) = (λ e. absurd (omega arith), λ e. absurd cc)
none_told (Err debug.BadCount) = (λ e. absurd (omega arith), λ e. absurd cc)

move_others : (a : Result (Unit {0}) DebugFault) → (move_status a ≡ 0) ⊎ (move_status a ≡ 2) ⊎ (move_status a ≡ 13)
move_others (Ok done) = search arith
move_others (Err debug.AtEnd) = search arith
move_others (Err debug.AtStart) = search arith
move_others (Err debug.NoSuchStep) = search arith
move_others (Err (debug.Differs index)) = search arith
move_others (Err debug.OutOfMemory) = search arith
move_others (Err debug.BadCount) = search arith

-- of the faults of a move, want of memory alone has its status
pub move_memory : (a : Result (Unit {0}) DebugFault) → IfErr a (λ fault. (fault ≡ debug.NoSuchStep) ⊎ (fault ≡ debug.OutOfMemory)) → move_status a ≡ 2 → IsErrOf a debug.OutOfMemory
move_memory (Ok done) one two = absurd (omega arith)
move_memory (Err debug.NoSuchStep) one two = absurd (omega arith)
move_memory (Err debug.OutOfMemory) one two = refl
move_memory (Err debug.AtEnd) one two = ⊎_elim (λ e. absurd cc) (λ e. absurd cc) one
move_memory (Err debug.AtStart) one two = ⊎_elim (λ e. absurd cc) (λ e. absurd cc) one
move_memory (Err (debug.Differs index)) one two = ⊎_elim (λ e. absurd cc) (λ e. absurd cc) one
move_memory (Err debug.BadCount) one two = ⊎_elim (λ e. absurd cc) (λ e. absurd cc) one

move_made : (P : Type 0) (a : Result (Unit {0}) DebugFault) → OnOk a P → move_status a ≡ 0 → P
move_made P (Ok done) is zero = is
move_made P (Err debug.AtEnd) is zero = absurd (omega arith)
move_made P (Err debug.AtStart) is zero = absurd (omega arith)
move_made P (Err debug.NoSuchStep) is zero = absurd (omega arith)
move_made P (Err (debug.Differs index)) is zero = absurd (omega arith)
move_made P (Err debug.OutOfMemory) is zero = absurd (omega arith)
move_made P (Err debug.BadCount) is zero = absurd (omega arith)

move_kept : (P : Type 0) (a : Result (Unit {0}) DebugFault) → OnErr a P → move_status a ≢ 0 → P
move_kept P (Ok done) same some = absurd (some refl)
move_kept P (Err fault) same some = same

-- no move is told as a closed session
pub move_other : (a : Result (Unit {0}) DebugFault) → move_status a ≢ 3
move_other (Ok done) = λ e. omega arith
move_other (Err debug.AtEnd) = λ e. omega arith
move_other (Err debug.AtStart) = λ e. omega arith
move_other (Err debug.NoSuchStep) = λ e. omega arith
move_other (Err (debug.Differs index)) = λ e. omega arith
move_other (Err debug.OutOfMemory) = λ e. omega arith
move_other (Err debug.BadCount) = λ e. omega arith

move_done : (a : Result (Unit {0}) DebugFault) → IsOk a → move_status a ≡ 0
move_done (Ok done) is = refl
move_done (Err fault) is = absurd cc

pub moved_to : (s wanted new : Session) (k : ℕ) (a : Result (Unit {0}) DebugFault) → OnOk a (new ≡ wanted) → (IsErrOf a debug.NoSuchStep ↔ (length s.log.events < k)) → OnErr a (new ≡ s)
    → (k ≡ s.position → IsOk a) → IsMovedTo s wanted k (move_status a) new
moved_to s wanted new k a made none err here = record {
  done = move_made (new ≡ wanted) a made;
  here = λ same. move_done a (here same);
  none = through (none_told a) none;
  other = move_others a;
  same = move_kept (new ≡ s) a err;
}
