-- The text that a tree is printed as: its tokens, one space between, and a newline at the end (docs/SOURCE.md, "Printing").
use Rattle.std.specs.Prelude.{ℕ, ◌+◌, List, [], ◌∷◌, ◌++◌, if◌then◌else◌, ◌==◌, map, drop, codes}
use Rattle.std.specs.Int.Digits.{digits_of}
use Rattle.asl_grammar.specs.Token.{Token, Fixed, Name, Number}
use Rattle.asl_grammar.specs.Bytes.{mark_bytes}
use Rattle.asl_grammar.specs.Spelling.{program_on}
use Rattle.asl_syntax.specs.Tree.{Item}
use Rattle.asl_syntax.specs.Writing.{writing}

-- a number without needless zeros, however many digits it has; std's word of this name writes 64 digits at the most, and a
-- token's number has no bound
abbrev pub decimal : ℕ → List ℕ
decimal n = if n == 0 then codes "0" else map (λ d. d + 48) (digits_of 10 n)

-- the bytes of a token with a space before them
abbrev pub piece : List ℕ → List ℕ
piece bytes = 32 ∷ bytes

-- the bytes of a token
abbrev pub token_bytes : Token → List ℕ
token_bytes (Fixed m) = mark_bytes m
token_bytes (Name x) = x
token_bytes (Number n) = decimal n

-- the bytes of tokens with a space before each
abbrev pub spaced : List Token → List ℕ
spaced [] = []
spaced (t ∷ ts) = piece (token_bytes t) ++ spaced ts

-- the text of a tree: the tokens of its writing, without the first space
abbrev pub printed : List Item → List ℕ
printed tree = drop 1 (spaced (program_on (writing tree) [])) ++ 10 ∷ []
