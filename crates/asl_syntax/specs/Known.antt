-- What it means that a program declares each name that it uses, and that its calls have as many arguments as the
-- functions have parameters (docs/SOURCE.md, "Refusals"). The law names_are_known ties it to `unknown` and `wrong_call` of
-- specs/Rules.
use Rattle.std.specs.Prelude.{◌≡◌, ◌⊎◌, ℕ, List, map, length}
use Rattle.std.specs.List.{All, Contains}
use Rattle.asl_syntax.specs.Tree.{Function, Item, globals_of, functions_of}
use Rattle.asl_syntax.specs.Mentions.{AssignsLocal, UsesLocal, UsesGlobal, CallsFunction, function_mentions, mentions}

-- a local of a function is one of its parameters, or is assigned somewhere in it
abbrev pub IsLocal : Function → List ℕ → Type 0
IsLocal f x = Contains f.parameters x ⊎ Contains (function_mentions f) (AssignsLocal x)

-- each local that the function uses is one of them
abbrev pub HasLocals : Function → Type 0
HasLocals f = (x : List ℕ) → Contains (function_mentions f) (UsesLocal x) → IsLocal f x

-- each global that is used is one of the globals, each function that is called is one of the functions, and each function
-- has its locals
pub record AreKnown (tree : List Item) : Type 0 where
  pub globals : (x : List ℕ) → Contains (mentions tree) (UsesGlobal x) → Contains (globals_of tree) x
  pub functions : (x : List ℕ) (n : ℕ) → Contains (mentions tree) (CallsFunction x n) → Contains (map (λ (f : Function). f.name) (functions_of tree)) x
  pub locals : All HasLocals (functions_of tree)

-- a function of this name has so many parameters
abbrev pub HasArity : List Item → List ℕ → ℕ → Type 0
HasArity tree x n = (f : Function) × Contains (functions_of tree) f × (f.name ≡ x) × (length f.parameters ≡ n)

-- each call with so many arguments is of a function with so many parameters
abbrev pub HaveArity : List Item → Type 0
HaveArity tree = (x : List ℕ) (n : ℕ) → Contains (mentions tree) (CallsFunction x n) → HasArity tree x n
