-- Machinery of the proofs, not of the promise: the state at a position of a journal, computed, and the machine there.
use Rattle.std.specs.Prelude.{ℕ, take}
use Rattle.asl_code.specs.declared.image.Image.{Image}
use Rattle.asl_machine.specs.State.{State}
use Rattle.asl_machine.specs.View.{Configuration}
use Rattle.asl_journal.specs.Journal.{Log}
use Rattle.asl_journal.specs.Computed.{state_at}

-- the state to which the first `k` events of the journal lead
abbrev pub state_before : Image → Log → ℕ → State
state_before image log k = state_at image log.threads (take k log.events)

-- the machine of the program in that state
abbrev pub machine_before : Image → Log → ℕ → Configuration
machine_before image log k = record { image = image; state = state_before image log k }
