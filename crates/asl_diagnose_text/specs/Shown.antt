-- What is shown of a text with a refusal: the line round its place, and a caret below the place (docs/SOURCE.md, "Reading a refusal").
use Rattle.std.specs.Prelude.{◌≡◌, ◌<◌, ◌⊎◌, ℕ, suc, ◌-◌, ◌==◌, ◌||◌, ◌&&◌, Bool, true, false, nat_le, nat_lt, if◌then◌else◌, List, [], ◌∷◌, ◌++◌, length, map, take, drop, min, max, codes, IsUtf8}
use Rattle.asl_diagnose_text.specs.Position.{IsLineStart}

-- a byte is shown as itself, where it is printable ASCII or a tab
abbrev pub is_plain : ℕ → Bool
is_plain b = (b == 9) || (nat_le 32 b && nat_le b 126)

-- and else as a question mark
abbrev pub shown : ℕ → ℕ
shown b = if is_plain b then b else 63

-- bytes between backticks, the first forty
abbrev pub quoted : List ℕ → List ℕ
quoted bytes =
    codes "`" ++ (map shown (take (min (length bytes) 40) bytes) ++ (if nat_lt (min (length bytes) 40) (length bytes) then codes "..`" else codes "`"))

-- what stands below it: a tab below a tab, else a blank
abbrev pub below : ℕ → ℕ
below b = if b == 9 then 9 else 32

-- how many bytes the character has that a byte begins, where it begins one of more than one
abbrev pub width : List ℕ → ℕ
width [] = 0
width (b ∷ bs) = if nat_lt b 192 then 0 else if nat_lt b 224 then 2 else if nat_lt b 240 then 3 else 4

-- a character that shows nothing of its own, by its bytes: a control, a blank, or a mark that joins or turns what stands round it
abbrev pub is_hidden : List ℕ → Bool
is_hidden (a ∷ b ∷ []) = (a == 194 && (nat_le b 160 || b == 173)) || (a == 216 && b == 156)
is_hidden (a ∷ b ∷ c ∷ []) =
    (a == 226 && b == 128 && (nat_le c 143 || nat_le 168 c && nat_le c 175)) || (a == 226 && b == 129 && nat_le 159 c && nat_le c 175)
    || (a == 227 && b == 128 && c == 128) || (a == 239 && b == 187 && c == 191)
is_hidden (a ∷ b ∷ rest) = a == 243 && b == 160
is_hidden bytes = false

-- bytes begin with this character, which is not ASCII and shows
pub record IsLetter (bytes letter : List ℕ) : Type 0 where
  pub front : letter ≡ take (min (width bytes) (length bytes)) bytes
  pub some : 0 < length letter
  pub utf8 : IsUtf8 letter
  pub shows : is_hidden letter ≡ false

-- it stands between backticks; where there is none, nothing does
abbrev pub IsLetterText : List ℕ → List ℕ → Type 0
IsLetterText bytes text =
    ((letter : List ℕ) × IsLetter bytes letter × (text ≡ codes "`" ++ (letter ++ codes "`"))) ⊎ (((letter : List ℕ) → ¬ IsLetter bytes letter) × (text ≡ []))

-- a line ends with a line feed, with a carriage return right before it, or with the text
abbrev pub is_at_feed : List ℕ → Bool
is_at_feed [] = true
is_at_feed (b ∷ bs) = b == 10

-- a line ends before these bytes
abbrev pub ends_line : List ℕ → Bool
ends_line [] = true
ends_line (b ∷ bs) = (b == 10) || (b == 13 && is_at_feed bs)

-- how many bytes stand before the end of the first line
abbrev pub line_len : List ℕ → ℕ
line_len [] = 0
line_len (b ∷ bs) = if ends_line (b ∷ bs) then 0 else suc (line_len bs)

-- the bytes before the place: from the front of its line, or 80 of them
pub record AreBefore (text : List ℕ) (at : ℕ) (bytes : List ℕ) : Type 0 where
  pub line : ℕ
  pub starts : IsLineStart (take at text) line
  pub is : bytes ≡ drop (max line (at - 80)) (take at text)

-- the bytes from the place on: to the end of its line, or so many
abbrev pub bytes_on : List ℕ → ℕ → ℕ → List ℕ
bytes_on text at room = take (min (line_len (drop at text)) room) (drop at text)

-- the line round the place, of which 120 bytes are shown at most, and the caret below it
pub record AreLines (text : List ℕ) (at : ℕ) (lines : List ℕ) : Type 0 where
  pub before : List ℕ
  pub are_before : AreBefore text at before
  pub is : lines ≡ map shown before ++ (map shown (bytes_on text at (120 - length before)) ++ (codes "\n" ++ (map below before ++ codes "^\n")))
