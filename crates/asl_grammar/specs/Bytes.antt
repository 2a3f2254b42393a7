-- Which bytes spell a token, apart from how a text is read (docs/SOURCE.md).
use Rattle.std.specs.Prelude.{◌≡◌, ℕ, ◌<◌, ◌≤◌, List, IsTrue, Option, Some, None, codes, length, take}
use Rattle.asl_grammar.specs.declared.token.Mark.{Mark}
use Rattle.asl_grammar.specs.declared.token.Mark.TheVariants as mark
use Rattle.asl_grammar.specs.Token.{Token, Fixed, Name, Number}
use Rattle.asl_grammar.specs.Lex.{is_digit, number_value, all_bytes, is_name}

-- the bytes of a word or symbol
abbrev pub mark_bytes : Mark → List ℕ
mark_bytes mark.Global = codes "global"
mark_bytes mark.Fn = codes "fn"
mark_bytes mark.Return = codes "return"
mark_bytes mark.Null = codes "null"
mark_bytes mark.New = codes "new"
mark_bytes mark.Out = codes "out"
mark_bytes mark.If = codes "if"
mark_bytes mark.Else = codes "else"
mark_bytes mark.While = codes "while"
mark_bytes mark.Atomic = codes "atomic"
mark_bytes mark.OpenParen = codes "("
mark_bytes mark.CloseParen = codes ")"
mark_bytes mark.OpenBrace = codes "{"
mark_bytes mark.CloseBrace = codes "}"
mark_bytes mark.OpenBracket = codes "["
mark_bytes mark.CloseBracket = codes "]"
mark_bytes mark.Comma = codes ","
mark_bytes mark.Semicolon = codes ";"
mark_bytes mark.Becomes = codes "="
mark_bytes mark.Same = codes "=="
mark_bytes mark.Plus = codes "+"
mark_bytes mark.Minus = codes "-"
mark_bytes mark.Less = codes "<"
mark_bytes mark.Ampersand = codes "&"
mark_bytes mark.Star = codes "*"

-- some digits, of this value
pub record IsNumber (n : ℕ) (bytes : List ℕ) : Type 0 where
  pub some : 0 < length bytes
  pub digits : IsTrue (all_bytes is_digit bytes)
  pub value : number_value bytes ≡ n

-- the name itself, which is not a word
pub record IsNamed (x bytes : List ℕ) : Type 0 where
  pub same : bytes ≡ x
  pub real : IsTrue (is_name x)

-- the bytes spell the token
abbrev pub IsSpelling : Token → List ℕ → Type 0
IsSpelling (Fixed m) bytes = bytes ≡ mark_bytes m
IsSpelling (Name x) bytes = IsNamed x bytes
IsSpelling (Number n) bytes = IsNumber n bytes

-- the first n bytes of a text spell the token, and no more of them spell any
pub record IsLongest (text : List ℕ) (t : Token) (n : ℕ) : Type 0 where
  pub within : n ≤ length text
  pub spelled : IsSpelling t (take n text)
  pub longest : (u : Token) (k : ℕ) → k ≤ length text → IsSpelling u (take k text) → k ≤ n

-- the text begins with no token
abbrev pub BeginsWithNone : List ℕ → Type 0
BeginsWithNone text = (u : Token) (k : ℕ) → IsSpelling u (take k text) → ⊥

-- what an answer says of the front of a text
abbrev pub IsFront : List ℕ → Option (Token × ℕ) → Type 0
IsFront text None = BeginsWithNone text
IsFront text (Some (t, n)) = IsLongest text t n
