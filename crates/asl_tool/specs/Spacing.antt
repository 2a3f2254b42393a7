-- How far the checkpoints of `debug` are apart (docs/JOURNAL.md, "The debugger").
use Rattle.std.specs.Prelude.{◌≡◌, ◌⊎◌, ◌+◌, ◌*◌, ◌/◌, ℕ, Bool, true, false, max, min, List, [], ◌∷◌, length, if◌then◌else◌}
use Rattle.std.specs.List.{list_any}
use Rattle.asl_code.specs.declared.image.Function.{Function}
use Rattle.asl_code.specs.declared.image.Image.{Image}
use Rattle.asl_code.specs.declared.instr.Instr.{Instr}
use Rattle.asl_code.specs.declared.instr.Instr.TheVariants as instr
use Rattle.asl_machine.specs.State.{Object, State}
use Rattle.asl_journal.specs.declared.event.Event.{Event}
use Rattle.asl_journal.specs.Journal.{LeadsTo}

-- how many bytes the objects take, about: 48 each, and 8 for each cell
abbrev pub heap_bytes : List Object → ℕ
heap_bytes [] = 0
heap_bytes (object ∷ objects) = 48 + length object.cells * 8 + heap_bytes objects

-- whether the instruction calls
abbrev pub is_call : Instr → Bool
is_call (instr.Call to first function) = true
is_call i = false

-- the most registers that one of the functions has
abbrev pub most_registers : List Function → ℕ
most_registers [] = 0
most_registers (f ∷ fs) = max f.regs (most_registers fs)

-- how many bytes the frames of so many threads take at most, about: 64 each, and 8 for each register; one frame each where nothing calls
abbrev pub stack_bytes : Image → ℕ → ℕ
stack_bytes image threads =
    threads * (if list_any is_call image.code then 256 else 1) * (64 + most_registers image.functions * 8)

-- the spacing at which checkpoints of so many bytes each, over so many events, take 268,435,456 bytes together, but at least 1,024
abbrev pub spacing_at : ℕ → ℕ → ℕ
spacing_at events bytes = max 1024 (min 4294967295 ((events * bytes) / 268435456))

-- the spacing is that for the state to which the events lead threads of the program, if they lead to one; or memory was refused, and
-- it is 1,024
abbrev pub IsSpacing : Type 0 → Image → ℕ → List Event → ℕ → Type 0
IsSpacing refused image threads events spacing =
    ((s : State) → LeadsTo image threads events s → spacing ≡ spacing_at (length events) (stack_bytes image threads + heap_bytes s.objects))
    ⊎ ((spacing ≡ 1024) × refused)
