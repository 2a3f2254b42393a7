-- What each fault says of a text: no fault before it in the list applies, and it names the first place (docs/SOURCE.md,
-- "Refusals").
use Rattle.std.specs.Prelude.{◌≡◌, ℕ, List, Some, None, length, false}
use Rattle.asl_grammar.specs.Lex.{tokens_of, bad_place}
use Rattle.asl_grammar.specs.Grammar.{IsProgram, IsGrammarFault, bare}
use Rattle.asl_syntax.specs.declared.fault.SyntaxFault as code
use Rattle.asl_syntax.specs.declared.fault.SyntaxFault.TheVariants as fault
use Rattle.asl_syntax.specs.Tree.{Item}
use Rattle.asl_syntax.specs.Limit.{first_limit}
use Rattle.asl_syntax.specs.Rules.{twice, unknown, wrong_call, has_main}
use Rattle.asl_syntax.specs.Parsed.{first_wide, IsLexed, IsSpelled, HasTree}

-- the first byte that is not ASCII
abbrev pub IsWide : List ℕ → ℕ → Type 0
IsWide text at = first_wide text ≡ Some at

-- the first byte where no token stands
pub record IsNoToken (text : List ℕ) (at : ℕ) : Type 0 where
  pub ascii : first_wide text ≡ None
  pub place : bad_place text ≡ Some at

-- the first token with which no program continues, or the end
pub record IsNoProgram (text : List ℕ) (at : ℕ) : Type 0 where
  pub lexed : IsLexed text
  pub place : IsGrammarFault (tokens_of text) (length text) at

-- the first place where a program's text passes a limit
pub record IsPastLimit (text : List ℕ) (at : ℕ) : Type 0 where
  pub lexed : IsLexed text
  pub program : IsProgram (bare (tokens_of text))
  pub place : first_limit text ≡ Some at

-- the first name that is declared a second time
pub record IsTwice (text : List ℕ) (x : List ℕ) : Type 0 where
  pub tree : List Item
  pub spelled : IsSpelled text tree
  pub name : twice tree ≡ Some x

-- the first name that is used and nowhere declared
pub record IsUnknown (text : List ℕ) (x : List ℕ) : Type 0 where
  pub tree : List Item
  pub spelled : IsSpelled text tree
  pub once : twice tree ≡ None
  pub name : unknown tree ≡ Some x

-- the first call with too many or too few arguments
pub record IsArity (text : List ℕ) (at : ℕ) : Type 0 where
  pub tree : List Item
  pub spelled : IsSpelled text tree
  pub once : twice tree ≡ None
  pub known : unknown tree ≡ None
  pub place : wrong_call tree (tokens_of text) ≡ Some at

-- no function `main` of one parameter
pub record IsWithoutMain (text : List ℕ) : Type 0 where
  pub tree : List Item
  pub spelled : IsSpelled text tree
  pub once : twice tree ≡ None
  pub known : unknown tree ≡ None
  pub arity : wrong_call tree (tokens_of text) ≡ None
  pub none : has_main tree ≡ false

-- the fault that a text has; running out of memory hides none, so the text has a tree
abbrev pub IsFault : List ℕ → code.SyntaxFault → Type 0
IsFault text (fault.NotAscii at) = IsWide text at
IsFault text (fault.Token at) = IsNoToken text at
IsFault text (fault.Grammar at) = IsNoProgram text at
IsFault text (fault.Limit at) = IsPastLimit text at
IsFault text (fault.Twice x) = IsTwice text x
IsFault text (fault.Unknown x) = IsUnknown text x
IsFault text (fault.Arity at) = IsArity text at
IsFault text fault.NoMain = IsWithoutMain text
IsFault text fault.OutOfMemory = HasTree text
