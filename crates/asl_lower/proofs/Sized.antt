-- The instructions that are counted are those that lie between places.
use Rattle.std.proofs.Common.{◌≡◌, ℕ, suc, ◌+◌, ◌<◌, ◌≤◌, Bool, IsTrue, Option, Some, None, IfSome, IfNone, List, [], ◌∷◌, length, arith}
use Rattle.std.specs.Option.{is_some}
use Rattle.asl_syntax.specs.declared.tree.Statement as tree
use Rattle.asl_syntax.specs.View.{block_of}
use Rattle.asl_syntax.specs.Tree.{Value, IntegerValue, NullValue, LocalValue, BinaryValue, GlobalValue, FieldValue, LoadValue, NewValue, CallValue, Statement, AssignStatement, StoreStatement, OutStatement, IfStatement, WhileStatement, AtomicStatement, Block, NoMore, Then, Function}
use Rattle.asl_lower.specs.Place.{Place, origin, next, entered, past_moves, past_value, past_stmt, past_block, past_else, past_function, past_functions}
use Rattle.asl_lower.specs.Size.{value_size, stmt_size, block_size, else_size, functions_size}

moves_sized : (args : List (List ℕ)) (p : Place) → (past_moves args p).pc ≡ p.pc + length args
moves_sized [] p = omega arith
moves_sized (a ∷ rest) p = omega (arith, moves_sized rest (next p))

value_sized : (v : Value) (p : Place) → (past_value v p).pc ≡ p.pc + value_size v
value_sized (IntegerValue z) p = omega arith
value_sized NullValue p = omega arith
value_sized (LocalValue y) p = omega arith
value_sized (BinaryValue y o z) p = omega arith
value_sized (GlobalValue g) p = omega arith
value_sized (FieldValue y n) p = omega arith
value_sized (LoadValue y) p = omega arith
value_sized (NewValue n) p = omega arith
value_sized (CallValue f args) p = omega (arith, moves_sized args p)

mutual
  pub stmt_sized : (s : Statement) (p : Place) → (past_stmt s p).pc ≡ p.pc + stmt_size s
  stmt_sized (AssignStatement x v) p = value_sized v p
  stmt_sized (StoreStatement x y) p = omega arith
  stmt_sized (OutStatement x) p = omega arith
  stmt_sized (IfStatement x a e) p =
      omega (arith, block_sized a (next p), else_sized e (past_block a (next p)))
  stmt_sized (WhileStatement x a) p = omega (arith, block_sized a (next p))
  stmt_sized (AtomicStatement a) p = omega (arith, block_sized a (entered p))

  pub block_sized : (b : Block) (p : Place) → (past_block b p).pc ≡ p.pc + block_size b
  block_sized NoMore p = omega arith
  block_sized (Then s b) p = omega (arith, stmt_sized s p, block_sized b (past_stmt s p))

  pub else_sized : (e : Block) (p : Place) → (past_else e p).pc ≡ p.pc + else_size e
  else_sized NoMore p = omega arith
  else_sized (Then s b) p = omega (arith, stmt_sized s (next p), block_sized b (past_stmt s (next p)))

pub functions_sized : (fs : List Function) (p : Place) → (past_functions fs p).pc ≡ p.pc + functions_size fs
functions_sized [] p = omega arith
functions_sized (f ∷ fs) p = omega (arith, block_sized f.body p, functions_sized fs (past_function f p))

-- a block that is not empty has a jump over it
pub some_else : (ss : List tree.Statement) → 0 < length ss → 2 + block_size (block_of ss) ≡ suc (else_size (block_of ss))
some_else [] l = absurd (omega arith)
some_else (s ∷ ss) l = omega arith

-- instructions are left after the functions exactly where they are enough
pub enough : (fs : List Function) (left : Option ℕ) (b : Bool) → b ≡ is_some left → IfSome left (λ n. functions_size fs + n ≡ 65535) → IfNone left (65535 < functions_size fs) → (IsTrue b → (past_functions fs origin).pc ≤ 65535) × ((past_functions fs origin).pc ≤ 65535 → IsTrue b)
enough fs (Some n) b e some none = (λ t. omega (arith, functions_sized fs origin), λ few. e)
enough fs None b e some none = (λ t. absurd cc, λ few. absurd (omega (arith, functions_sized fs origin)))
