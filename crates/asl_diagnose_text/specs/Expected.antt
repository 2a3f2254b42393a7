-- With which kinds of token a program continues where a text stops being the beginning of one (docs/SOURCE.md, "Grammar").
use Rattle.std.specs.Prelude.{◌≢◌, ◌↔◌, ℕ, List, [], ◌∷◌, ◌++◌, Bool, IsTrue}
use Rattle.std.specs.List.{Contains, AllPairs}
use Rattle.asl_grammar.specs.Token.{Token, Fixed, Name, Number, Spot}
use Rattle.asl_grammar.specs.Grammar.{IsProgram, IsViable, IsGrammarFault, bare}
use Rattle.asl_diagnose_text.specs.declared.kind.TokenKind.{TokenKind}
use Rattle.asl_diagnose_text.specs.declared.kind.TokenKind.TheVariants as kind

-- the kind of a token
abbrev pub kind_of : Token → TokenKind
kind_of (Fixed m) = kind.Fixed m
kind_of (Name x) = kind.Name
kind_of (Number n) = kind.Number

-- of each token, its kind is listed exactly where some program begins with these tokens and it
abbrev pub GoOn : List Token → List TokenKind → Type 0
GoOn before kinds = (t : Token) → Contains kinds (kind_of t) ↔ IsViable (before ++ t ∷ [])

-- the tokens stop being the beginning of a program at this place; after those before it a program continues with these kinds of
-- token, each listed once, and ends there or not
pub record IsStop (ss : List Spot) (end at : ℕ) (kinds : List TokenKind) (may_end : Bool) : Type 0 where
  pub fault : IsGrammarFault ss end at
  pub listed : GoOn (bare fault.before) kinds
  pub once : AllPairs (λ a b. a ≢ b) kinds
  pub ends : IsTrue may_end ↔ IsProgram (bare fault.before)
