-- Which token lists are programs, and where one stops being the beginning of a program (docs/SOURCE.md, "Grammar" and
-- "Refusals").
use Rattle.std.specs.Prelude.{◌≡◌, ℕ, List, [], ◌∷◌, ◌++◌, IsTrue, map, Option, MatchOption}
use Rattle.asl_grammar.specs.Token.{Token, Spot}
use Rattle.asl_grammar.specs.Written.{Item}
use Rattle.asl_grammar.specs.Spelling.{program_on}
use Rattle.asl_grammar.specs.Lex.{are_tokens}

-- the tokens are a program by the rules of the grammar
pub record IsProgram (ts : List Token) : Type 0 where
  pub program : List Item
  pub spelled : program_on program [] ≡ ts

-- some program begins with these tokens
pub record IsViable (ts : List Token) : Type 0 where
  pub more : List Token
  pub real : IsTrue (are_tokens more)
  pub whole : IsProgram (ts ++ more)

-- the tokens without their places
abbrev pub bare : List Spot → List Token
bare ss = map (λ (s : Spot). s.token) ss

-- after `before`, which begins a program, no program continues with the next token, or none ends at the end
abbrev pub StopsAt : List Token → List Spot → ℕ → ℕ → Type 0
StopsAt before [] end at = (at ≡ end) × (IsProgram before → ⊥)
StopsAt before (s ∷ rest) end at = (at ≡ s.at) × (IsViable (before ++ s.token ∷ []) → ⊥)

-- `at` is the place of the first token with which no program continues, or the end where the text stops too early
pub record IsGrammarFault (ss : List Spot) (end at : ℕ) : Type 0 where
  pub before : List Spot
  pub rest : List Spot
  pub split : ss ≡ before ++ rest
  pub begins : IsViable (bare before)
  pub stops : StopsAt (bare before) rest end at
  pub no_program : IsProgram (bare ss) → ⊥

-- what an answer says of the tokens: they are a program, or it is the place of their fault
abbrev pub Judges : List Spot → ℕ → Option ℕ → Type 0
Judges ss end at = MatchOption at (IsProgram (bare ss)) (IsGrammarFault ss end)
