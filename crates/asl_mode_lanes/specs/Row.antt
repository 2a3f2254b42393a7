-- Rows of codes: what each thread holds at one node (docs/LOCKS.md, "Modes").
use Rattle.std.specs.Prelude.{ℕ, ◌<◌, ◌≡◌, ◌≢◌, ◌==◌, List, length, slice_index, All, false, if◌then◌else◌}
use Rattle.asl_mode_lanes.specs.declared.mode.Mode.{Mode}
use Rattle.asl_mode_lanes.specs.declared.mode.Mode.TheVariants.{NL, IS, IX, S, SIX, X}
use Rattle.asl_mode_lanes.specs.Mode.{code_of, is_compatible}

-- the mode that has this code, and NL where none has
abbrev pub mode_of : ℕ → Mode
mode_of code =
    if code == 1 then IS else if code == 3 then IX else if code == 5 then S else if code == 7 then SIX else if code == 15 then X else NL

-- some mode has this code
abbrev pub IsCode : ℕ → Type 0
IsCode code = code_of (mode_of code) ≡ code

-- a row: a list of codes
abbrev pub IsRow : List ℕ → Type 0
IsRow row = All IsCode row

-- what thread t holds in this row: nothing from the end of the row on
abbrev pub mode_at : List ℕ → ℕ → Mode
mode_at row t = mode_of (slice_index row t)

-- thread t, another than `own`, holds a mode in this row that keeps `own` from `want`
pub record IsConflict (row : List ℕ) (own : ℕ) (want : Mode) (t : ℕ) : Type 0 where
  pub there : t < length row
  pub other : t ≢ own
  pub excludes : is_compatible (mode_at row t) want ≡ false
