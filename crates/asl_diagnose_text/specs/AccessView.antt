-- Machinery of the proofs, not of the promise: how many loads and stores src/code_walk.rt has passed. What contracts cite is
-- `accesses_before` of specs/Places.
use Rattle.std.specs.Prelude.{ℕ, ◌+◌, ◌-◌, min, List, [], ◌∷◌}
use Rattle.asl_syntax.specs.Tree.{Value, LoadValue, Statement, AssignStatement, StoreStatement, OutStatement, IfStatement, WhileStatement, AtomicStatement, Block, NoMore, Then, Function}
use Rattle.asl_lower.specs.Size.{value_size}
use Rattle.asl_diagnose_text.specs.declared.code_walk.Passed.{Passed}

-- more than this many loads and stores are never passed
abbrev pub room : Passed → ℕ
room a = a.accesses + a.left

-- after so many instructions that are no accesses, and after one that is
abbrev pub after : Passed → ℕ → Passed
after a n = record { left = a.left - n; accesses = a.accesses }

-- after one instruction that is a load or a store, if one is left
abbrev pub after_access : Passed → Passed
after_access a = record { left = a.left - 1; accesses = a.accesses + min a.left 1 }

-- after a value
abbrev pub after_value : Passed → Value → Passed
after_value a (LoadValue y) = after_access a
after_value a v = after a (value_size v)

-- after a statement, a block, and what follows the first block of an `if`
abbrev mutual
  pub after_stmt : Passed → Statement → Passed
  after_stmt a (AssignStatement x v) = after_value a v
  after_stmt a (StoreStatement x y) = after_access a
  after_stmt a (OutStatement x) = after a 1
  after_stmt a (IfStatement x b e) = after_else (after_block (after a 1) b) e
  after_stmt a (WhileStatement x b) = after (after_block (after a 1) b) 1
  after_stmt a (AtomicStatement b) = after (after_block (after a 1) b) 1

  pub after_block : Passed → Block → Passed
  after_block a NoMore = a
  after_block a (Then s b) = after_block (after_stmt a s) b

  pub after_else : Passed → Block → Passed
  after_else a NoMore = a
  after_else a (Then s b) = after_block (after_stmt (after a 1) s) b

-- after functions
abbrev pub after_function : Passed → Function → Passed
after_function a f = after (after_block a f.body) 1

-- after the functions of a list, one by one
abbrev pub after_functions : Passed → List Function → Passed
after_functions a [] = a
after_functions a (f ∷ fs) = after_functions (after_function a f) fs
