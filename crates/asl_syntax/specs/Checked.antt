-- Machinery of the proofs, not of the promise: a text that no refusal of docs/SOURCE.md up to `Limit` applies to: only its names may still break a rule.
use Rattle.std.specs.Prelude.{◌≡◌, ℕ, List, None}
use Rattle.asl_grammar.specs.Lex.{tokens_of}
use Rattle.asl_grammar.specs.Grammar.{IsProgram, bare}
use Rattle.asl_syntax.specs.Limit.{first_limit}
use Rattle.asl_syntax.specs.Parsed.{IsLexed}

-- the tokens are a program, and no limit is passed
pub record IsWritten (text : List ℕ) : Type 0 where
  pub lexed : IsLexed text
  pub program : IsProgram (bare (tokens_of text))
  pub limits : first_limit text ≡ None
