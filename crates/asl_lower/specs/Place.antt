-- Places between instructions, and how far the code of a statement goes (docs/SOURCE.md, "Templates").
use Rattle.std.specs.Prelude.{ℕ, suc, List, [], ◌∷◌}
use Rattle.asl_syntax.specs.Tree.{Value, NewValue, CallValue, Statement, AssignStatement, StoreStatement, OutStatement, IfStatement, WhileStatement, AtomicStatement, Block, NoMore, Then, Function}

-- a place between two instructions: how many instructions, sites and sections stand before it
pub record Place : Type 0 where
  pub pc : ℕ
  pub site : ℕ
  pub section : ℕ

-- where the code of a program begins
abbrev pub origin : Place
origin = record { pc = 0; site = 0; section = 0 }

-- after one instruction that is no `new` and no `acq`
abbrev pub next : Place → Place
next p = record { pc = suc p.pc; site = p.site; section = p.section }

-- after one `new`
abbrev pub created : Place → Place
created p = record { pc = suc p.pc; site = suc p.site; section = p.section }

-- after one `acq`
abbrev pub entered : Place → Place
entered p = record { pc = suc p.pc; site = p.site; section = suc p.section }

-- after as many `mov` as there are arguments
abbrev pub past_moves : List (List ℕ) → Place → Place
past_moves [] p = p
past_moves (a ∷ rest) p = past_moves rest (next p)

-- after the code of a value
abbrev pub past_value : Value → Place → Place
past_value (NewValue n) p = created p
past_value (CallValue f args) p = next (past_moves args p)
past_value v p = next p

-- after the code of a statement, a block, and what follows the first block of an `if`
abbrev mutual
  pub past_stmt : Statement → Place → Place
  past_stmt (AssignStatement x v) p = past_value v p
  past_stmt (StoreStatement x y) p = next p
  past_stmt (OutStatement x) p = next p
  past_stmt (IfStatement x a e) p = past_else e (past_block a (next p))
  past_stmt (WhileStatement x a) p = next (past_block a (next p))
  past_stmt (AtomicStatement a) p = next (past_block a (entered p))

  pub past_block : Block → Place → Place
  past_block NoMore p = p
  past_block (Then s b) p = past_block b (past_stmt s p)

  pub past_else : Block → Place → Place
  past_else NoMore p = p
  past_else (Then s b) p = past_block b (past_stmt s (next p))

-- after a function: its statements and its `ret`
abbrev pub past_function : Function → Place → Place
past_function f p = next (past_block f.body p)

-- after functions, one after the other
abbrev pub past_functions : List Function → Place → Place
past_functions [] p = p
past_functions (f ∷ fs) p = past_functions fs (past_function f p)
