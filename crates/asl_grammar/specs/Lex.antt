-- Reading bytes as tokens: the longest token first, blanks between (docs/SOURCE.md). The definitions compute; specs/Bytes
-- and specs/Readings say without reading what a token and the tokens of a text are, and the laws of src/ that it is the same.
-- Public contracts cite `tokens_of` and `bad_place`, and rest on `are_tokens` by `IsViable` of specs/Grammar; laws cite
-- these three, `front`, `leading` and `IsAtToken`, and of bytes `is_blank`, `is_digit`, `is_name_byte`, `all_bytes`,
-- `is_name` and `number_value`.
use Rattle.std.specs.Prelude.{◌≡◌, ℕ, zero, suc, ◌+◌, ◌-◌, ◌*◌, List, [], ◌∷◌, Bool, true, false, Option, Some, None, if◌then◌else◌, ◌==◌, nat_le, ◌&&◌, ◌||◌, codes, bytes_eq, take, is_none}
use Rattle.asl_grammar.specs.declared.token.Mark.{Mark}
use Rattle.asl_grammar.specs.declared.token.Mark.TheVariants as mark
use Rattle.asl_grammar.specs.Token.{Token, Fixed, Name, Number, Spot}

-- space, tab, line feed, carriage return
abbrev pub is_blank : ℕ → Bool
is_blank b = b == 32 || b == 9 || b == 10 || b == 13

-- no blank stands in front
abbrev pub IsAtToken : List ℕ → Type 0
IsAtToken [] = Unit {0}
IsAtToken (b ∷ bs) = is_blank b ≡ false

-- `0` to `9`
abbrev pub is_digit : ℕ → Bool
is_digit b = nat_le 48 b && nat_le b 57

-- `A` to `Z`, `a` to `z` and `_`
abbrev pub is_letter : ℕ → Bool
is_letter b = nat_le 65 b && nat_le b 90 || nat_le 97 b && nat_le b 122 || b == 95

-- what a name continues with
abbrev pub is_name_byte : ℕ → Bool
is_name_byte b = is_letter b || is_digit b

-- how many bytes at the front pass a test
abbrev pub leading : (ℕ → Bool) → List ℕ → ℕ
leading p [] = 0
leading p (b ∷ bs) = if p b then suc (leading p bs) else 0

-- the word of these bytes, if they are one
abbrev pub word_of : List ℕ → Option Mark
word_of w =
    if bytes_eq w (codes "global") then Some mark.Global
    else if bytes_eq w (codes "fn") then Some mark.Fn
    else if bytes_eq w (codes "return") then Some mark.Return
    else if bytes_eq w (codes "null") then Some mark.Null
    else if bytes_eq w (codes "new") then Some mark.New
    else if bytes_eq w (codes "out") then Some mark.Out
    else if bytes_eq w (codes "if") then Some mark.If
    else if bytes_eq w (codes "else") then Some mark.Else
    else if bytes_eq w (codes "while") then Some mark.While
    else if bytes_eq w (codes "atomic") then Some mark.Atomic
    else None

-- the word, else the name, of these bytes
abbrev pub word_or_name : Option Mark → List ℕ → Token
word_or_name None w = Name w
word_or_name (Some m) w = Fixed m

-- `=` or `==`, by the byte after the first
abbrev pub equals_token : List ℕ → Token × ℕ
equals_token [] = (Fixed mark.Becomes, 1)
equals_token (b ∷ bs) = if b == 61 then (Fixed mark.Same, 2) else (Fixed mark.Becomes, 1)

-- the symbol of one byte
abbrev pub symbol_of_byte : ℕ → Option Mark
symbol_of_byte b =
    if b == 40 then Some mark.OpenParen
    else if b == 41 then Some mark.CloseParen
    else if b == 123 then Some mark.OpenBrace
    else if b == 125 then Some mark.CloseBrace
    else if b == 91 then Some mark.OpenBracket
    else if b == 93 then Some mark.CloseBracket
    else if b == 44 then Some mark.Comma
    else if b == 59 then Some mark.Semicolon
    else if b == 43 then Some mark.Plus
    else if b == 45 then Some mark.Minus
    else if b == 60 then Some mark.Less
    else if b == 38 then Some mark.Ampersand
    else if b == 42 then Some mark.Star
    else None

-- the token of a symbol, if there is one
abbrev pub symbol_token : Option Mark → Option (Token × ℕ)
symbol_token None = None
symbol_token (Some m) = Some (Fixed m, 1)

-- the value of decimal digits after others of value n
abbrev pub value_from : ℕ → List ℕ → ℕ
value_from n [] = n
value_from n (d ∷ ds) = value_from (n * 10 + (d - 48)) ds

-- the value of decimal digits
abbrev pub number_value : List ℕ → ℕ
number_value ds = value_from 0 ds

-- a name or word of n bytes, a number of n digits
abbrev pub letters_token : List ℕ → ℕ → Token × ℕ
letters_token bs n = (word_or_name (word_of (take n bs)) (take n bs), n)

-- the number of the first n bytes, which are digits, and n
abbrev pub digits_token : List ℕ → ℕ → Token × ℕ
digits_token bs n = (Number (number_value (take n bs)), n)

-- the longest token at the front, and how many bytes it takes
abbrev pub front : List ℕ → Option (Token × ℕ)
front [] = None
front (b ∷ bs) =
    if is_letter b then Some (letters_token (b ∷ bs) (leading is_name_byte (b ∷ bs)))
    else if is_digit b then Some (digits_token (b ∷ bs) (leading is_digit (b ∷ bs)))
    else if b == 61 then Some (equals_token bs)
    else symbol_token (symbol_of_byte b)

-- a token and the tokens after it
abbrev pub spot_then : Option (Token × ℕ) → ℕ → (ℕ → List Spot) → List Spot
spot_then None at go = []
spot_then (Some (t, n)) at go = record { token = t; at = at } ∷ go (n - 1)

-- the tokens of a text after the next `skip` bytes, up to a byte where none stands; its first byte has the place `at`
abbrev pub spots : List ℕ → ℕ → ℕ → List Spot
spots [] skip at = []
spots (b ∷ bs) (suc skip) at = spots bs skip (suc at)
spots (b ∷ bs) zero at =
    if is_blank b then spots bs 0 (suc at) else spot_then (front (b ∷ bs)) at (λ k. spots bs k (suc at))

-- the place itself, or what stands after a token
abbrev pub bad_then : Option (Token × ℕ) → ℕ → (ℕ → Option ℕ) → Option ℕ
bad_then None at go = Some at
bad_then (Some (t, n)) at go = go (n - 1)

-- the first place where neither a blank nor a token stands
abbrev pub bad_from : List ℕ → ℕ → ℕ → Option ℕ
bad_from [] skip at = None
bad_from (b ∷ bs) (suc skip) at = bad_from bs skip (suc at)
bad_from (b ∷ bs) zero at =
    if is_blank b then bad_from bs 0 (suc at) else bad_then (front (b ∷ bs)) at (λ k. bad_from bs k (suc at))

-- the tokens of a whole text with their places, and its first place where none stands
abbrev pub tokens_of : List ℕ → List Spot
tokens_of text = spots text 0 0

-- the first place of a whole text where neither a blank nor a token stands
abbrev pub bad_place : List ℕ → Option ℕ
bad_place text = bad_from text 0 0

-- each byte passes a test
abbrev pub all_bytes : (ℕ → Bool) → List ℕ → Bool
all_bytes p [] = true
all_bytes p (b ∷ bs) = p b && all_bytes p bs

-- a letter and name bytes
abbrev pub has_name_bytes : List ℕ → Bool
has_name_bytes [] = false
has_name_bytes (b ∷ bs) = is_letter b && all_bytes is_name_byte bs

-- the bytes of a name: a letter and name bytes, and no word
abbrev pub is_name : List ℕ → Bool
is_name x = has_name_bytes x && is_none (word_of x)

-- a token that some bytes spell
abbrev pub is_token : Token → Bool
is_token (Fixed m) = true
is_token (Name x) = is_name x
is_token (Number n) = true

-- each of them is such a token
abbrev pub are_tokens : List Token → Bool
are_tokens [] = true
are_tokens (t ∷ ts) = is_token t && are_tokens ts
