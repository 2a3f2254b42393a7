-- Where a name is first used that is nowhere declared (docs/SOURCE.md, "Refusals").
use Rattle.std.specs.Prelude.{◌≡◌, ℕ, List, [], ◌∷◌, Option, Some, None, is_some, if◌then◌else◌, drop, length}
use Rattle.asl_grammar.specs.Lex.{tokens_of}
use Rattle.asl_grammar.specs.Token.{Spot}
use Rattle.asl_syntax.specs.declared.names.Space.TheVariants.{Globals, Functions, Locals}
use Rattle.asl_syntax.specs.Tree.{Item}
use Rattle.asl_syntax.specs.Mentions.{Mention, item_mentions, mentions}
use Rattle.asl_syntax.specs.Rules.{Names, names_in, unknown_use, name_places}
use Rattle.asl_syntax.specs.Parsed.{IsSpelled}
use Rattle.asl_diagnose_text.specs.Places.{IsNameAt}

-- the place of the first of some mentions that uses an unknown name, where they are those of the name tokens one by one
abbrev pub use_from : Names → Names → Names → List Mention → List ℕ → Option ℕ
use_from globals functions locals [] places = None
use_from globals functions locals (m ∷ ms) [] = None
use_from globals functions locals (m ∷ ms) (at ∷ places) =
    if is_some (unknown_use globals functions locals m) then Some at else use_from globals functions locals ms places

-- the first of two places, if there is one
abbrev pub or_place : Option ℕ → Option ℕ → Option ℕ
or_place None other = other
or_place (Some at) other = Some at

-- that of items; the locals of a function are its parameters and the names that it assigns anywhere
abbrev pub unknown_from : Names → Names → List Item → List ℕ → Option ℕ
unknown_from globals functions [] places = None
unknown_from globals functions (i ∷ is) places =
    or_place (use_from globals functions (names_in Locals (item_mentions i)) (item_mentions i) places) (unknown_from globals functions is (drop (length (item_mentions i)) places))

-- that of a program
abbrev pub unknown_place : List Item → List Spot → Option ℕ
unknown_place tree ss = unknown_from (names_in Globals (mentions tree)) (names_in Functions (mentions tree)) tree (name_places ss)

-- the name stands there, and it is the first use of an unknown name
pub record IsUnknownPlace (text x : List ℕ) (at : ℕ) : Type 0 where
  pub name : IsNameAt (tokens_of text) x at
  pub tree : List Item
  pub spelled : IsSpelled text tree
  pub place : unknown_place tree (tokens_of text) ≡ Some at
