-- The words that a process was started with, and what is known of each of them (docs/CLI.md, "Status").
use Rattle.std.specs.Prelude.{◌≡◌, ◌<◌, ℕ, suc, List, Option, None, Some, IfSome, Ok, Err, length, take, drop, slice_get, All, IsUtf8}
use Rattle.std.specs.declared.result.Result.{Result}
use Rattle.std.specs.declared.env.FillError.{FillError}
use Rattle.std.specs.declared.env.FillError.TheVariants.{NotPresent, TooLong}
use Rattle.asl.specs.declared.process_words.WordsFault.{WordsFault}
use Rattle.asl.specs.declared.process_words.WordsFault.TheVariants.{NotText, OutOfMemory}

-- what is told of the word of a number by the first bytes of a buffer: the word, that there is none, or that it is longer than
-- the buffer
abbrev pub TellsWord : List (List ℕ) → ℕ → List ℕ → Result ℕ FillError → Type 0
TellsWord words number buffer (Ok count) = slice_get words number ≡ Some (take count buffer)
TellsWord words number buffer (Err NotPresent) = slice_get words number ≡ None
TellsWord words number buffer (Err TooLong) = (word : List ℕ) × (slice_get words number ≡ Some word) × (length buffer < length word)

-- the words are those after the program's name, where it is known what the process was started with
abbrev pub AreGiven : Option (List (List ℕ)) → List (List ℕ) → Type 0
AreGiven line words = IfSome line (λ all. words ≡ drop 1 all)

-- each word is a text in UTF-8
abbrev pub AreTexts : List (List ℕ) → Type 0
AreTexts words = All IsUtf8 words

-- the word of a number is no text in UTF-8
abbrev pub IsNoText : List (List ℕ) → ℕ → Type 0
IsNoText words number = (word : List ℕ) × (slice_get words number ≡ Some word) × ¬ IsUtf8 word

-- one after the program's name is none, where that is known
abbrev pub HasNoText : Option (List (List ℕ)) → Type 0
HasNoText line = IfSome line (λ all. (n : ℕ) × IsNoText all (suc n))

-- why there are no words: one of them is no text, or memory ran out
abbrev pub IsWordsFault : Option (List (List ℕ)) → WordsFault → Type 0
IsWordsFault line NotText = HasNoText line
IsWordsFault line OutOfMemory = Unit {0}

-- the same of the word of a number
abbrev pub IsWordFault : List (List ℕ) → ℕ → WordsFault → Type 0
IsWordFault words number NotText = IsNoText words number
IsWordFault words number OutOfMemory = Unit {0}
