-- Names: those of the program's commands (docs/CLI.md, "Commands"), and words that are names of the source language.
use Rattle.std.specs.Char.{is_ascii_alphabetic, is_ascii_alphanumeric}
use Rattle.std.specs.Prelude.{◌≢◌, ◌&&◌, ◌||◌, ◌==◌, ℕ, Bool, false, [], ◌∷◌, codes}
use Rattle.std.specs.List.{All, list_all}
use Rattle.clap.specs.Words.{Text}

-- no command has the name
abbrev pub IsUnknown : Text → Type 0
IsUnknown name = All (λ known. name ≢ known)
    (codes "step" ∷ codes "asm" ∷ codes "dis" ∷ codes "compile" ∷ codes "check" ∷ codes "map" ∷ codes "explain" ∷ codes "lists" ∷ codes "diagnose" ∷ codes "c" ∷ codes "replay" ∷ codes "log" ∷ codes "debug" ∷ codes "run" ∷ [])

-- a letter or `_`
abbrev pub is_name_start : ℕ → Bool
is_name_start byte = is_ascii_alphabetic byte || byte == 95

-- a letter, a digit or `_`
abbrev pub is_name_byte : ℕ → Bool
is_name_byte byte = is_ascii_alphanumeric byte || byte == 95

-- the text is a name of the source language, or one of its words
abbrev pub is_name : Text → Bool
is_name [] = false
is_name (first ∷ rest) = is_name_start first && list_all is_name_byte rest
