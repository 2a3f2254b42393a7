-- Breakpoints: a set of places of the code (docs/JOURNAL.md, "Breakpoints").
use Rattle.std.specs.Prelude.{◌≡◌, ◌==◌, ◌&&◌, ℕ, Bool, true, false, nat_lt, if◌then◌else◌, List}
use Rattle.std.specs.List.{list_any}

-- whether the place is among the breakpoints
abbrev pub has_break : List ℕ → ℕ → Bool
has_break breakpoints pc = list_any (λ place. place == pc) breakpoints

-- code may have this place: it has at most 65,535 instructions
abbrev pub is_place : ℕ → Bool
is_place pc = nat_lt pc 65536

-- this place is a breakpoint, if code may have it, and all others are as they were
abbrev pub HasBreak : List ℕ → List ℕ → ℕ → Type 0
HasBreak old new pc = (place : ℕ) → has_break new place ≡ (if is_place pc && (pc == place) then true else has_break old place)

-- this place is none, and all others are as they were
abbrev pub HasNoBreak : List ℕ → List ℕ → ℕ → Type 0
HasNoBreak old new pc = (place : ℕ) → has_break new place ≡ (if pc == place then false else has_break old place)
