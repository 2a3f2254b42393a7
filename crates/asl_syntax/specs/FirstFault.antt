-- What it means that a declaration, a use or a call is the first of a program that breaks a rule of names
-- (docs/SOURCE.md, "Refusals"). The law faults_of_names_are_the_first ties it to `twice`, `unknown` and `wrong_call` of
-- specs/Rules.
use Rattle.std.specs.Prelude.{◌≡◌, ℕ, List, ◌∷◌, ◌++◌, map, length, Some, slice_get}
use Rattle.std.specs.List.{All, Contains}
use Rattle.asl_grammar.specs.Token.{Spot}
use Rattle.asl_syntax.specs.Tree.{Function, Item, globals_of, functions_of}
use Rattle.asl_syntax.specs.Mentions.{Mention, DeclaresGlobal, DeclaresFunction, DeclaresParameter, UsesLocal, UsesGlobal, CallsFunction, function_mentions, mentions}
use Rattle.asl_syntax.specs.TokenNames.{mention_name}
use Rattle.asl_syntax.specs.Rules.{name_places}
use Rattle.asl_syntax.specs.Known.{IsLocal, HasArity}

-- the last function that the mentions declare has a parameter x: one stands among them, and no function is declared after
-- it
pub record IsOwnParameter (ms : List Mention) (x : List ℕ) : Type 0 where
  pub before : List Mention
  pub behind : List Mention
  pub split : ms ≡ before ++ DeclaresParameter x ∷ behind
  pub no_function : (y : List ℕ) → Contains behind (DeclaresFunction y) → ⊥

-- a mention declares a global or a function that is declared before it, or a parameter that its function has before it
abbrev pub IsRepeated : List Mention → Mention → Type 0
IsRepeated before (DeclaresGlobal x) = Contains before (DeclaresGlobal x)
IsRepeated before (DeclaresFunction x) = Contains before (DeclaresFunction x)
IsRepeated before (DeclaresParameter x) = IsOwnParameter before x
IsRepeated before _ = ⊥

-- x is the name at the first repeated declaration: no mention before it repeats one
pub record IsFirstTwice (tree : List Item) (x : List ℕ) : Type 0 where
  pub before : List Mention
  pub mention : Mention
  pub behind : List Mention
  pub split : mentions tree ≡ before ++ mention ∷ behind
  pub repeated : IsRepeated before mention
  pub named : mention_name mention ≡ x
  pub none_before : (ms : List Mention) (m : Mention) (ns : List Mention) → before ≡ ms ++ m ∷ ns → IsRepeated ms m → ⊥

-- x is the first element of which P does not hold: xs is some elements of which it holds, then x, then others
pub record IsFirstWithout {X : Type 0} (P : X → Type 0) (xs : List X) (x : X) : Type 0 where
  pub before : List X
  pub behind : List X
  pub split : xs ≡ before ++ x ∷ behind
  pub holds_before : All P before
  pub not_here : P x → ⊥

-- a local that a function uses is one of its locals, a global is one of the globals, and a function that it calls is one of
-- the functions; other mentions are no uses
abbrev pub IsKnownIn : List Item → Function → Mention → Type 0
IsKnownIn tree f (UsesLocal x) = IsLocal f x
IsKnownIn tree f (UsesGlobal x) = Contains (globals_of tree) x
IsKnownIn tree f (CallsFunction x n) = Contains (map (λ (g : Function). g.name) (functions_of tree)) x
IsKnownIn tree f _ = Unit {0}

-- each name that the function uses is known so
abbrev pub UsesKnownNames : List Item → Function → Type 0
UsesKnownNames tree f = All (IsKnownIn tree f) (function_mentions f)

-- x is the name at the first unknown use of the first function that has one
pub record IsFirstUnknown (tree : List Item) (x : List ℕ) : Type 0 where
  pub function : Function
  pub mention : Mention
  pub first_function : IsFirstWithout (UsesKnownNames tree) (functions_of tree) function
  pub first_mention : IsFirstWithout (IsKnownIn tree function) (function_mentions function) mention
  pub named : mention_name mention ≡ x

-- a call has as many arguments as a function of its name has parameters; other mentions are no calls
abbrev pub IsRightCall : List Item → Mention → Type 0
IsRightCall tree (CallsFunction x n) = HasArity tree x n
IsRightCall tree _ = Unit {0}

-- at is the place of the first wrong call: its name token has as many name tokens before it as there are mentions before
-- the call
pub record IsFirstWrongCall (tree : List Item) (ss : List Spot) (at : ℕ) : Type 0 where
  pub mention : Mention
  pub first : IsFirstWithout (IsRightCall tree) (mentions tree) mention
  pub placed : slice_get (name_places ss) (length first.before) ≡ Some at
