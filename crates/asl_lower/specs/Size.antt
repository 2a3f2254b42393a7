-- Machinery of the proofs, not of the promise: how many instructions the code of a program has, as src/code_size.rt counts
-- them. What contracts cite is `end_of` of specs/Lowered.
use Rattle.std.specs.Prelude.{ℕ, suc, ◌+◌, List, [], ◌∷◌, length}
use Rattle.asl_syntax.specs.Tree.{Value, CallValue, Statement, AssignStatement, StoreStatement, OutStatement, IfStatement, WhileStatement, AtomicStatement, Block, NoMore, Then, Function}

-- a value has a `mov` for each argument, and one instruction more
abbrev pub value_size : Value → ℕ
value_size (CallValue f args) = suc (length args)
value_size v = 1

-- a statement, a block, and what follows the first block of an `if`
abbrev mutual
  pub stmt_size : Statement → ℕ
  stmt_size (AssignStatement x v) = value_size v
  stmt_size (StoreStatement x y) = 1
  stmt_size (OutStatement x) = 1
  stmt_size (IfStatement x a e) = suc (block_size a + else_size e)
  stmt_size (WhileStatement x a) = suc (suc (block_size a))
  stmt_size (AtomicStatement a) = suc (suc (block_size a))

  pub block_size : Block → ℕ
  block_size NoMore = 0
  block_size (Then s b) = stmt_size s + block_size b

  pub else_size : Block → ℕ
  else_size NoMore = 0
  else_size (Then s b) = suc (stmt_size s + block_size b)

-- functions have their statements, and a `ret` each
abbrev pub functions_size : List Function → ℕ
functions_size [] = 0
functions_size (f ∷ fs) = suc (block_size f.body) + functions_size fs
