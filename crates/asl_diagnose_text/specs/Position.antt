-- Lines, columns and words of a text, in bytes.
use Rattle.std.specs.Prelude.{◌≡◌, ◌≢◌, ℕ, suc, ◌+◌, ◌-◌, ◌<◌, ◌≤◌, ◌⊎◌, ◌==◌, Bool, true, false, not, List, [], ◌∷◌, length, take, drop, min, slice_index, count_by}
use Rattle.std.specs.List.{prefix_len}
use Rattle.asl_grammar.specs.Lex.{is_blank}
use Rattle.asl_assembler.specs.Words.{is_separator, words_of}

-- a line feed
abbrev pub is_feed : ℕ → Bool
is_feed b = b == 10

-- the line after these bytes, from 1
abbrev pub line_behind : List ℕ → ℕ
line_behind before = suc (count_by is_feed before)

-- the last line of these bytes begins there: at their front or after a line feed, and none stands from there on
pub record IsLineStart (before : List ℕ) (start : ℕ) : Type 0 where
  pub within : start ≤ length before
  pub begins : (start ≡ 0) ⊎ (slice_index before (start - 1) ≡ 10)
  pub none : (i : ℕ) → start ≤ i → i < length before → slice_index before i ≢ 10

-- the column after these bytes, from 1: how many of them their last line has, and one more
pub record IsColumn (before : List ℕ) (column : ℕ) : Type 0 where
  pub start : ℕ
  pub line : IsLineStart before start
  pub counted : start + column ≡ suc (length before)

-- the line of this number begins there: at the front of the text or after a line feed
pub record BeginsLine (text : List ℕ) (number start : ℕ) : Type 0 where
  pub within : start ≤ length text
  pub begins : (start ≡ 0) ⊎ (slice_index text (start - 1) ≡ 10)
  pub line : line_behind (take start text) ≡ number

-- the first byte of the line of this number that is no blank
pub record IsLineFront (text : List ℕ) (number at : ℕ) : Type 0 where
  pub start : ℕ
  pub line : BeginsLine text number start
  pub blanks : at ≡ start + prefix_len is_separator (drop start text)

-- the first of some words, which is empty where there is none
abbrev pub first_of : List (List ℕ) → List ℕ
first_of [] = []
first_of (word ∷ words) = word

-- the line and the column of a place, both from 1
pub record IsPosition (text : List ℕ) (at number from_one : ℕ) : Type 0 where
  pub line : number ≡ line_behind (take at text)
  pub column : IsColumn (take at text) from_one

-- the bytes before a place end there with one that is no blank: only blanks stand from there to the place
pub record IsEndBefore (text : List ℕ) (at end : ℕ) : Type 0 where
  pub within : end ≤ min at (length text)
  pub blanks : (i : ℕ) → end ≤ i → i < min at (length text) → is_blank (slice_index text i) ≡ true
  pub last : (end ≡ 0) ⊎ (is_blank (slice_index text (end - 1)) ≡ false)
