-- Lines, words and numbers of an assembly text (docs/FORMATS.md).
use Rattle.std.specs.Prelude.{◌≡◌, ℕ, ℤ, pos, neg_ℤ, ◌+◌, ◌-◌, ◌*◌, ◌^◌, ◌<◌, ◌≤◌, ◌⊎◌, Bool, false, not, ◌||◌, ◌==◌, IsTrue, List, [], ◌∷◌, length, codes, if◌then◌else◌}
use Rattle.std.specs.List.{list_all}
use Rattle.std.specs.Char.{is_ascii_digit}
use Rattle.asl_assembler.specs.declared.keyword.Keyword.{Keyword}
use Rattle.asl_assembler.specs.declared.keyword.Keyword.TheVariants as keyword

-- A byte at the front of the first line
abbrev pub with_first : ℕ → List (List ℕ) → List (List ℕ)
with_first b [] = (b ∷ []) ∷ []
with_first b (line ∷ lines) = (b ∷ line) ∷ lines

-- The lines of a text: a line feed (10) ends a line, and the last line may lack it
abbrev pub lines_of : List ℕ → List (List ℕ)
lines_of [] = []
lines_of (b ∷ bs) = if b == 10 then [] ∷ lines_of bs else with_first b (lines_of bs)

-- What stands between words: spaces, tabs, commas and carriage returns
abbrev pub is_separator : ℕ → Bool
is_separator b = (b == 32) || (b == 9) || (b == 44) || (b == 13)

-- Whether a word stands at the front
abbrev pub begins_word : List ℕ → Bool
begins_word [] = false
begins_word (b ∷ bs) = not (is_separator b)

-- The words of a line: the longest parts without a separator
abbrev pub words_of : List ℕ → List (List ℕ)
words_of [] = []
words_of (b ∷ bs) = if is_separator b then words_of bs else (if begins_word bs then with_first b (words_of bs) else (b ∷ []) ∷ words_of bs)

-- What decimal digits are worth after digits that are worth `high`
abbrev pub worth_after : ℕ → List ℕ → ℕ
worth_after high [] = high
worth_after high (d ∷ ds) = worth_after (10 * high + (d - 48)) ds

-- The word is the number n: one to ten decimal digits, and a value in the field's range
pub record IsNumber (below : ℕ) (word : List ℕ) (n : ℕ) : Type 0 where
  pub digits : IsTrue (list_all is_ascii_digit word)
  pub some : 0 < length word
  pub few : length word ≤ 10
  pub value : n ≡ worth_after 0 word
  pub fits : n < below

-- The word is a mark, and after it a number
abbrev pub IsMarked : ℕ → ℕ → List ℕ → ℕ → Type 0
IsMarked mark below [] n = ⊥
IsMarked mark below (c ∷ word) n = (c ≡ mark) × IsNumber below word n

-- The word is a 32-bit integer: a number, or `-` (45) and a number
abbrev pub IsInteger : List ℕ → ℤ → Type 0
IsInteger word z = ((n : ℕ) × IsNumber (2 ^ 31) word n × (z ≡ pos n)) ⊎ ((n : ℕ) × IsMarked 45 (2 ^ 31 + 1) word n × (z ≡ neg_ℤ (pos n)))

-- How a keyword is written
abbrev pub name_of : Keyword → List ℕ
name_of keyword.Version = codes "version"
name_of keyword.Classes = codes "classes"
name_of keyword.Global = codes "global"
name_of keyword.Entry = codes "entry"
name_of keyword.Function = codes "fn"
name_of keyword.List = codes "list"
name_of keyword.Root = codes "root"
name_of keyword.Class = codes "class"
name_of keyword.Expr = codes "expr"
name_of keyword.Int = codes "int"
name_of keyword.Null = codes "null"
name_of keyword.Mov = codes "mov"
name_of keyword.Add = codes "add"
name_of keyword.Sub = codes "sub"
name_of keyword.Lt = codes "lt"
name_of keyword.Eq = codes "eq"
name_of keyword.Glob = codes "glob"
name_of keyword.Field = codes "field"
name_of keyword.Load = codes "load"
name_of keyword.Store = codes "store"
name_of keyword.New = codes "new"
name_of keyword.Jmp = codes "jmp"
name_of keyword.Jz = codes "jz"
name_of keyword.Call = codes "call"
name_of keyword.Ret = codes "ret"
name_of keyword.Out = codes "out"
name_of keyword.Acq = codes "acq"
name_of keyword.Rel = codes "rel"
name_of keyword.Read = codes "read"
name_of keyword.Write = codes "write"

-- What a word can be: a keyword; a number of 8 or of 16 bits, or a signed one of 32 bits; a register `r0`, a global
-- `g0`; of a path `*` and `.0`
pub data Token : Type 0 where
  Name : Keyword → Token
  Byte : ℕ → Token
  Short : ℕ → Token
  Integer : ℤ → Token
  Register : ℕ → Token
  GlobalName : ℕ → Token
  Star : Token
  Offset : ℕ → Token

-- The word is such a token
abbrev pub IsWord : Token → List ℕ → Type 0
IsWord (Name k) word = word ≡ name_of k
IsWord (Byte n) word = IsNumber 256 word n
IsWord (Short n) word = IsNumber 65536 word n
IsWord (Integer z) word = IsInteger word z
IsWord (Register n) word = IsMarked 114 256 word n
IsWord (GlobalName n) word = IsMarked 103 65536 word n
IsWord Star word = word ≡ codes "*"
IsWord (Offset n) word = IsMarked 46 256 word n

-- The words are these tokens, one for one
abbrev pub AreWords : List Token → List (List ℕ) → Type 0
AreWords [] [] = Unit {0}
AreWords [] (word ∷ words) = ⊥
AreWords (token ∷ tokens) [] = ⊥
AreWords (token ∷ tokens) (word ∷ words) = IsWord token word × AreWords tokens words
