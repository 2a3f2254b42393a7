-- Which tree a text spells, and that it breaks no rule: what `parse` answers (docs/SOURCE.md).
use Rattle.std.specs.Prelude.{◌≡◌, ℕ, List, Option, None, IsTrue, nat_le, position}
use Rattle.asl_grammar.specs.Lex.{tokens_of, bad_place}
use Rattle.asl_grammar.specs.Grammar.{bare}
use Rattle.asl_syntax.specs.Tree.{Item}
use Rattle.asl_syntax.specs.Spelled.{Spells}
use Rattle.asl_syntax.specs.Limit.{first_limit}
use Rattle.asl_syntax.specs.Rules.{twice, unknown, wrong_call, has_main}

-- the first byte that is not ASCII
abbrev pub first_wide : List ℕ → Option ℕ
first_wide text = position (λ b. nat_le 128 b) text

-- the text is blanks and tokens throughout
pub record IsLexed (text : List ℕ) : Type 0 where
  pub ascii : first_wide text ≡ None
  pub tokens : bad_place text ≡ None

-- the text keeps the limits and spells the tree
pub record IsSpelled (text : List ℕ) (tree : List Item) : Type 0 where
  pub lexed : IsLexed text
  pub spelled : Spells tree (bare (tokens_of text))
  pub limits : first_limit text ≡ None

-- the text spells the tree and breaks no rule
pub record Parses (text : List ℕ) (tree : List Item) : Type 0 where
  pub spelled : IsSpelled text tree
  pub twice : twice tree ≡ None
  pub unknown : unknown tree ≡ None
  pub arity : wrong_call tree (tokens_of text) ≡ None
  pub main : IsTrue (has_main tree)

-- the text spells some tree and breaks no rule
pub record HasTree (text : List ℕ) : Type 0 where
  pub tree : List Item
  pub parses : Parses text tree

-- some text spells the tree and breaks no rule
pub record IsParsed (tree : List Item) : Type 0 where
  pub text : List ℕ
  pub parses : Parses text tree
