-- How the names of a program become numbers (docs/SOURCE.md, "Templates").
use Rattle.std.specs.Prelude.{ℕ, suc, ◌+◌, max, Bool, false, ◌||◌, if◌then◌else◌, bytes_eq, List, [], ◌∷◌, ◌++◌, length, map}
use Rattle.asl_syntax.specs.Tree.{Value, CallValue, Statement, AssignStatement, StoreStatement, OutStatement, IfStatement, WhileStatement, AtomicStatement, Block, NoMore, Then, Function, Item, globals_of, functions_of}

-- whether the name is among these
abbrev pub has_name : List (List ℕ) → List ℕ → Bool
has_name [] x = false
has_name (y ∷ ys) x = bytes_eq y x || has_name ys x

-- the place of the name among these, from 0, and how many there are where it is not among them
abbrev pub number_of : List (List ℕ) → List ℕ → ℕ
number_of [] x = 0
number_of (y ∷ ys) x = if bytes_eq y x then 0 else suc (number_of ys x)

-- the names, and after them one more if it is new
abbrev pub with_name : List (List ℕ) → List ℕ → List (List ℕ)
with_name xs x = if has_name xs x then xs else xs ++ x ∷ []

-- the names, and after them the new ones that are assigned, in the order of the text
abbrev mutual
  pub stmt_locals : List (List ℕ) → Statement → List (List ℕ)
  stmt_locals xs (AssignStatement x v) = with_name xs x
  stmt_locals xs (StoreStatement x y) = xs
  stmt_locals xs (OutStatement x) = xs
  stmt_locals xs (IfStatement x a b) = block_locals (block_locals xs a) b
  stmt_locals xs (WhileStatement x a) = block_locals xs a
  stmt_locals xs (AtomicStatement a) = block_locals xs a

  pub block_locals : List (List ℕ) → Block → List (List ℕ)
  block_locals xs NoMore = xs
  block_locals xs (Then s b) = block_locals (stmt_locals xs s) b

-- how many arguments the value passes
abbrev pub value_arguments : Value → ℕ
value_arguments (CallValue f args) = length args
value_arguments v = 0

-- the largest number of arguments of a call
abbrev mutual
  pub stmt_arguments : Statement → ℕ
  stmt_arguments (AssignStatement x v) = value_arguments v
  stmt_arguments (StoreStatement x y) = 0
  stmt_arguments (OutStatement x) = 0
  stmt_arguments (IfStatement x a b) = max (block_arguments a) (block_arguments b)
  stmt_arguments (WhileStatement x a) = block_arguments a
  stmt_arguments (AtomicStatement a) = block_arguments a

  pub block_arguments : Block → ℕ
  block_arguments NoMore = 0
  block_arguments (Then s b) = max (stmt_arguments s) (block_arguments b)

-- the locals of a function in the order of their registers: parameters, then the others by first assignment
abbrev pub locals_of : Function → List (List ℕ)
locals_of f = block_locals f.parameters f.body

-- how many registers a function has: a local each, and one for each argument of its longest call
abbrev pub registers_of : Function → ℕ
registers_of f = length (locals_of f) + block_arguments f.body

-- what the names of a function's body mean: its locals, the globals and the functions, each numbered from 0
pub record Scope : Type 0 where
  pub function : ℕ
  pub locals : List (List ℕ)
  pub globals : List (List ℕ)
  pub functions : List (List ℕ)

-- the names of a program's functions
abbrev pub function_names : List Function → List (List ℕ)
function_names fs = map (λ (f : Function). f.name) fs

-- the scope of the function of this number
abbrev pub scope_of : List Item → ℕ → Function → Scope
scope_of is number f =
    record { function = number; locals = locals_of f; globals = globals_of is; functions = function_names (functions_of is) }

-- the register of a local
abbrev pub register : Scope → List ℕ → ℕ
register sc x = number_of sc.locals x

-- the number of a global
abbrev pub global_number : Scope → List ℕ → ℕ
global_number sc x = number_of sc.globals x

-- the number of a function
abbrev pub function_number : Scope → List ℕ → ℕ
function_number sc x = number_of sc.functions x
