-- Machinery of the proofs, not of the promise: stops, by the computed state at a position.
use Rattle.std.specs.Prelude.{◌≡◌, ◌<◌, ◌≤◌, ◌⊎◌, ℕ, length, slice_get, IsSomeAnd}
use Rattle.asl_code.specs.declared.image.Image.{Image}
use Rattle.asl_machine.specs.WellFormed.{MayWantMemory}
use Rattle.asl_journal.specs.Journal.{Log}
use Rattle.asl_debugger.specs.Computed.{state_before}
use Rattle.asl_debugger.specs.Session.{Session, IsAtBreak}

-- the step of the event after this position may need memory in the state there
abbrev pub MayWantMemoryBefore : Image → Log → ℕ → Type 0
MayWantMemoryBefore image log k = IsSomeAnd (slice_get log.events k) (λ event. MayWantMemory image (state_before image log k) event.thread)

-- the position is a stop
abbrev pub IsHalt : Session → ℕ → Type 0
IsHalt s k = IsSomeAnd (slice_get s.log.events k) (λ event. IsAtBreak s.breakpoints (state_before s.image s.log k) event.thread)

-- the least later stop, or the end where there is none
pub record IsNextHalt (s : Session) (k : ℕ) : Type 0 where
  pub later : s.position < k
  pub within : k ≤ length s.log.events
  pub none_between : (j : ℕ) → s.position < j → j < k → ¬ IsHalt s j
  pub stops : IsHalt s k ⊎ (k ≡ length s.log.events)

-- the greatest earlier stop, or the start where there is none
pub record IsLastHalt (s : Session) (k : ℕ) : Type 0 where
  pub earlier : k < s.position
  pub none_between : (j : ℕ) → k < j → j < s.position → ¬ IsHalt s j
  pub stops : IsHalt s k ⊎ (k ≡ 0)
