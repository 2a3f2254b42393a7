-- What a version of the format sets (docs/FORMATS.md, "Versions"). Nothing else depends on the version.
use Rattle.std.specs.Prelude.{◌≡◌, ◌⊎◌, ◌==◌, ℕ, Bool, true, false, nat_le, Option, None, Some, is_some, if◌then◌else◌}
use Rattle.std.specs.Option.{option_map_or}
use Rattle.asl_code.specs.declared.image_limits.Limits.{Limits}

-- there is such a version
abbrev pub IsVersion : ℕ → Type 0
IsVersion version = (version ≡ 1) ⊎ (version ≡ 2)

-- the newest version
abbrev pub newest : ℕ
newest = 2

-- the most threads of a machine over an image of the newest version
abbrev pub newest_threads : ℕ
newest_threads = 128

-- the most locks of a list of an image of the newest version
abbrev pub newest_locks : ℕ
newest_locks = 256

-- what this version sets, if there is such a version
unfoldable pub limits_of : ℕ → Option Limits
limits_of version =
    if version == 1 then Some (record { threads = 64; locks = 64; fresh = false })
    else if version == 2 then Some (record { threads = newest_threads; locks = newest_locks; fresh = true })
    else None

-- whether there is such a version
abbrev pub is_version : ℕ → Bool
is_version version = is_some (limits_of version)

-- the most threads of a machine over an image of this version
unfoldable pub most_threads : ℕ → ℕ
most_threads version = option_map_or (λ (l : Limits). l.threads) (limits_of version) 0

-- the first version that has so many threads, where one has
unfoldable pub version_for : ℕ → ℕ
version_for threads = if nat_le threads (most_threads 1) then 1 else 2

-- the most locks of a list of an image of this version
unfoldable pub most_locks : ℕ → ℕ
most_locks version = option_map_or (λ (l : Limits). l.locks) (limits_of version) 0

-- whether what a section has made is fresh for it, by images of this version (docs/LOCKS.md, "Fresh objects")
unfoldable pub has_fresh : ℕ → Bool
has_fresh version = option_map_or (λ (l : Limits). l.fresh) (limits_of version) false
