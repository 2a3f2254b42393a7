-- Code grows: no place after a statement has fewer instructions, sites or sections before it.
use Rattle.std.proofs.Common.{ℕ, ◌≤◌, List, [], ◌∷◌, arith}
use Rattle.asl_syntax.specs.Tree.{Value, IntegerValue, NullValue, LocalValue, BinaryValue, GlobalValue, FieldValue, LoadValue, NewValue, CallValue, Statement, AssignStatement, StoreStatement, OutStatement, IfStatement, WhileStatement, AtomicStatement, Block, NoMore, Then, Function}
use Rattle.asl_lower.specs.Place.{Place, next, created, entered, past_moves, past_value, past_stmt, past_block, past_else, past_function, past_functions}

-- no count of `p` is above that of `q`
pub record Precedes (p q : Place) : Type 0 where
  pub pc : p.pc ≤ q.pc
  pub site : p.site ≤ q.site
  pub section : p.section ≤ q.section

pub itself : (p : Place) → Precedes p p
itself p = record { pc = omega arith; site = omega arith; section = omega arith }

pub by_next : (p : Place) → Precedes p (next p)
by_next p = record { pc = omega arith; site = omega arith; section = omega arith }

pub by_created : (p : Place) → Precedes p (created p)
by_created p = record { pc = omega arith; site = omega arith; section = omega arith }

pub by_entered : (p : Place) → Precedes p (entered p)
by_entered p = record { pc = omega arith; site = omega arith; section = omega arith }

pub joined : {p q r : Place} → Precedes p q → Precedes q r → Precedes p r
joined a b =
    record { pc = omega (arith, a.pc, b.pc); site = omega (arith, a.site, b.site); section = omega (arith, a.section, b.section) }

pub by_moves : (args : List (List ℕ)) (p : Place) → Precedes p (past_moves args p)
by_moves [] p = itself p
by_moves (a ∷ rest) p = joined (by_next p) (by_moves rest (next p))

pub by_value : (v : Value) (p : Place) → Precedes p (past_value v p)
by_value (IntegerValue z) p = by_next p
by_value NullValue p = by_next p
by_value (LocalValue y) p = by_next p
by_value (BinaryValue y o z) p = by_next p
by_value (GlobalValue g) p = by_next p
by_value (FieldValue y n) p = by_next p
by_value (LoadValue y) p = by_next p
by_value (NewValue n) p = by_created p
by_value (CallValue f args) p = joined (by_moves args p) (by_next (past_moves args p))

mutual
  pub by_stmt : (s : Statement) (p : Place) → Precedes p (past_stmt s p)
  by_stmt (AssignStatement x v) p = by_value v p
  by_stmt (StoreStatement x y) p = by_next p
  by_stmt (OutStatement x) p = by_next p
  by_stmt (IfStatement x a e) p =
      joined (by_next p) (joined (by_block a (next p)) (by_else e (past_block a (next p))))
  by_stmt (WhileStatement x a) p = joined (by_next p) (joined (by_block a (next p)) (by_next (past_block a (next p))))
  by_stmt (AtomicStatement a) p =
      joined (by_entered p) (joined (by_block a (entered p)) (by_next (past_block a (entered p))))

  pub by_block : (b : Block) (p : Place) → Precedes p (past_block b p)
  by_block NoMore p = itself p
  by_block (Then s b) p = joined (by_stmt s p) (by_block b (past_stmt s p))

  pub by_else : (e : Block) (p : Place) → Precedes p (past_else e p)
  by_else NoMore p = itself p
  by_else (Then s b) p =
      joined (by_next p) (joined (by_stmt s (next p)) (by_block b (past_stmt s (next p))))

pub by_function : (f : Function) (p : Place) → Precedes p (past_function f p)
by_function f p = joined (by_block f.body p) (by_next (past_block f.body p))

pub by_functions : (fs : List Function) (p : Place) → Precedes p (past_functions fs p)
by_functions [] p = itself p
by_functions (f ∷ fs) p = joined (by_function f p) (by_functions fs (past_function f p))
