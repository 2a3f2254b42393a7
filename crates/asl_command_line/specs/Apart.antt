-- Machinery of the proofs, not of the promise: the words of a schedule that `clap` does not read (src/apart.rt).
use Rattle.std.specs.Prelude.{◌≡◌, ◌≤◌, ◌+◌, ◌++◌, ℕ, List, None, Some, codes, length, slice_get}
use Rattle.clap.specs.Lexer.{strip_byte}
use Rattle.clap.specs.Words.{Text}
use Rattle.asl_command_line.specs.Number.{AreNumbers}

-- the word does not begin with a hyphen, so it is no flag
abbrev pub IsPlain : Text → Type 0
IsPlain word = strip_byte 45 word ≡ None

-- the words are those of `step`, and no flag is among those after so many and the last two of these
pub record IsFront (words : List Text) (count : ℕ) : Type 0 where
  pub long : 3 ≤ count
  pub within : count ≤ length words
  pub step : slice_get words 0 ≡ Some (codes "step")
  pub plain : (i : ℕ) (word : Text) → count ≤ i + 2 → slice_get words i ≡ Some word → IsPlain word

-- the numbers of the words have been added
abbrev pub AreAdded : List Text → List ℕ → List ℕ → Type 0
AreAdded words old new = (numbers : List ℕ) × (new ≡ old ++ numbers) × AreNumbers words numbers
