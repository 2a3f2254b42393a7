-- The tokens of the source language, as values (docs/SOURCE.md).
use Rattle.std.specs.Prelude.{ℕ, List}
use Rattle.asl_grammar.specs.declared.token.Mark.{Mark}

-- a word or symbol, a name with its bytes, or a number with its value
pub data Token : Type 0 where
  Fixed : Mark → Token
  Name : List ℕ → Token
  Number : ℕ → Token

-- a token and the place of its first byte
pub record Spot : Type 0 where
  pub token : Token
  pub at : ℕ
