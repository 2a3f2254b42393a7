-- The names of a list of tokens (docs/SOURCE.md), and the name of a mention: what the law `a_tree_mentions_its_names` speaks
-- of.
use Rattle.std.specs.Prelude.{ℕ, List, [], ◌∷◌}
use Rattle.asl_grammar.specs.Token.{Token, Name}
use Rattle.asl_syntax.specs.Mentions.{Mention, DeclaresGlobal, DeclaresFunction, DeclaresParameter, AssignsLocal, UsesLocal, UsesGlobal, CallsFunction}

-- the names among tokens, in order
abbrev pub token_names : List Token → List (List ℕ)
token_names [] = []
token_names (Name x ∷ ts) = x ∷ token_names ts
token_names (t ∷ ts) = token_names ts

-- the name that a mention speaks of
abbrev pub mention_name : Mention → List ℕ
mention_name (DeclaresGlobal x) = x
mention_name (DeclaresFunction x) = x
mention_name (DeclaresParameter x) = x
mention_name (AssignsLocal x) = x
mention_name (UsesLocal x) = x
mention_name (UsesGlobal x) = x
mention_name (CallsFunction x n) = x
