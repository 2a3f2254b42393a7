-- What the tokens of a text are, apart from how it is read: blanks, the longest token after them, and so on to the end
-- (docs/SOURCE.md). The law `a_text_has_one_reading` says that `tokens_of` and `bad_place` of specs/Lex are this.
use Rattle.std.specs.Prelude.{◌≡◌, ℕ, ◌+◌, ◌<◌, ◌≤◌, List, [], ◌∷◌, IsTrue, Option, Some, None, length, take, drop}
use Rattle.asl_grammar.specs.Token.{Spot}
use Rattle.asl_grammar.specs.Lex.{is_blank, all_bytes, IsAtToken}
use Rattle.asl_grammar.specs.Bytes.{IsLongest, BeginsWithNone}

-- after some blanks stands the token `s`, the longest there, and `rest` after it; the text's first byte has the place
-- `at`, and that of `rest` has the place `next`
pub record IsFirstToken (text : List ℕ) (at : ℕ) (s : Spot) (rest : List ℕ) (next : ℕ) : Type 0 where
  pub blanks : ℕ
  pub within : blanks ≤ length text
  pub blank : IsTrue (all_bytes is_blank (take blanks text))
  pub place : s.at ≡ at + blanks
  pub len : ℕ
  pub longest : IsLongest (drop blanks text) s.token len
  pub left : rest ≡ drop len (drop blanks text)
  pub behind : next ≡ at + blanks + len

-- after some blanks stands a byte that is not a blank and begins no token, at this place
pub record IsStop (text : List ℕ) (at stop : ℕ) : Type 0 where
  pub blanks : ℕ
  pub within : blanks < length text
  pub blank : IsTrue (all_bytes is_blank (take blanks text))
  pub here : IsAtToken (drop blanks text)
  pub none : BeginsWithNone (drop blanks text)
  pub place : stop ≡ at + blanks

-- where no further token is read: at the end, before which stand blanks alone, or at a place where no token stands
abbrev pub IsEnd : List ℕ → ℕ → Option ℕ → Type 0
IsEnd text at None = IsTrue (all_bytes is_blank text)
IsEnd text at (Some place) = IsStop text at place

-- the tokens of a text with their places, and the place where none stands, if there is one
abbrev pub IsReading : List ℕ → ℕ → List Spot → Option ℕ → Type 0
IsReading text at [] end = IsEnd text at end
IsReading text at (s ∷ ss) end =
    (rest : List ℕ) × (next : ℕ) × IsFirstToken text at s rest next × IsReading rest next ss end
