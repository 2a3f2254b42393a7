-- The sections that are open before the code of a statement are open after it again.
use Rattle.std.proofs.Common.{◌≡◌, ℕ, suc, List, [], ◌∷◌, Option, Some, refl, ap, ◌∙◌}
use Rattle.asl_code.specs.declared.instr.Instr.{Instr}
use Rattle.asl_grammar.specs.declared.control.Operator.{Operator}
use Rattle.asl_grammar.specs.declared.control.Operator.TheVariants.{Add, Subtract, IsLess, IsEqual}
use Rattle.asl_syntax.specs.Tree.{Value, IntegerValue, NullValue, LocalValue, BinaryValue, GlobalValue, FieldValue, LoadValue, NewValue, CallValue, Statement, AssignStatement, StoreStatement, OutStatement, IfStatement, WhileStatement, AtomicStatement, Block, NoMore, Then, Function, Item}
use Rattle.asl_lower.specs.Names.{Scope, register}
use Rattle.asl_lower.specs.Place.{Place, next, entered, past_moves, past_value, past_stmt, past_block, past_else, past_function, past_functions}
use Rattle.asl_lower.specs.Lowered.{Lowered, Has, operator_instr, AreMoved, IsLoweredValue, IsLoweredStmt, IsLoweredBlock, IsLoweredElse, IsLoweredFunction, AreLoweredFunctions}
use Rattle.asl_lower.specs.OpenSections.{without_innermost, open_behind, open_at}

-- the sections that are open before a place
abbrev pub opened : Lowered → Place → List ℕ
opened l p = open_at l.code p.pc

-- what is open after an instruction that stands at the place
pub opened_next : (l : Lowered) (p : Place) (i : Instr) → Has l p i → open_at l.code (suc p.pc) ≡ open_behind (Some i) (opened l p)
opened_next l p i h = ap (λ (v : Option Instr). open_behind v (opened l p)) h

-- an operator opens and closes nothing
pub operator_keeps : (o : Operator) (x y z : ℕ) (os : List ℕ) → open_behind (Some (operator_instr o x y z)) os ≡ os
operator_keeps Add x y z os = refl
operator_keeps Subtract x y z os = refl
operator_keeps IsLess x y z os = refl
operator_keeps IsEqual x y z os = refl

pub moves_balance : (sc : Scope) (l : Lowered) (args : List (List ℕ)) (p : Place) (to : ℕ) → AreMoved sc l args p to → opened l (past_moves args p) ≡ opened l p
moves_balance sc l [] p to h = refl
moves_balance sc l (a ∷ rest) p to h = moves_balance sc l rest (next p) (suc to) h.1 ∙ opened_next l p _ h.0

pub value_balance : (sc : Scope) (l : Lowered) (to : ℕ) (v : Value) (p : Place) → IsLoweredValue sc l to v p → opened l (past_value v p) ≡ opened l p
value_balance sc l to (IntegerValue z) p h = opened_next l p _ h
value_balance sc l to NullValue p h = opened_next l p _ h
value_balance sc l to (LocalValue y) p h = opened_next l p _ h
value_balance sc l to (BinaryValue y o z) p h = opened_next l p _ h ∙ operator_keeps o to (register sc y) (register sc z) (opened l p)
value_balance sc l to (GlobalValue g) p h = opened_next l p _ h
value_balance sc l to (FieldValue y n) p h = opened_next l p _ h
value_balance sc l to (LoadValue y) p h = opened_next l p _ h
value_balance sc l to (NewValue n) p h = opened_next l p _ h
value_balance sc l to (CallValue f args) p h =
    opened_next l (past_moves args p) _ h.1 ∙ moves_balance sc l args p _ h.0

mutual
  pub stmt_balance : (sc : Scope) (l : Lowered) (s : Statement) (p : Place) → IsLoweredStmt sc l s p → opened l (past_stmt s p) ≡ opened l p
  stmt_balance sc l (AssignStatement x v) p h = value_balance sc l (register sc x) v p h
  stmt_balance sc l (StoreStatement x y) p h = opened_next l p _ h
  stmt_balance sc l (OutStatement x) p h = opened_next l p _ h
  stmt_balance sc l (IfStatement x a e) p h =
      else_balance sc l e (past_block a (next p)) h.2 ∙ block_balance sc l a (next p) h.1 ∙ opened_next l p _ h.0
  stmt_balance sc l (WhileStatement x a) p h =
      opened_next l (past_block a (next p)) _ h.2 ∙ block_balance sc l a (next p) h.1 ∙ opened_next l p _ h.0
  stmt_balance sc l (AtomicStatement a) p h =
      opened_next l (past_block a (entered p)) _ h.2
      ∙ ap without_innermost (block_balance sc l a (entered p) h.1)
      ∙ ap without_innermost (opened_next l p _ h.0)

  pub block_balance : (sc : Scope) (l : Lowered) (b : Block) (p : Place) → IsLoweredBlock sc l b p → opened l (past_block b p) ≡ opened l p
  block_balance sc l NoMore p h = refl
  block_balance sc l (Then s b) p h =
      block_balance sc l b (past_stmt s p) h.1 ∙ stmt_balance sc l s p h.0

  pub else_balance : (sc : Scope) (l : Lowered) (e : Block) (p : Place) → IsLoweredElse sc l e p → opened l (past_else e p) ≡ opened l p
  else_balance sc l NoMore p h = refl
  else_balance sc l (Then s b) p h =
      block_balance sc l b (past_stmt s (next p)) h.2 ∙ stmt_balance sc l s (next p) h.1 ∙ opened_next l p _ h.0

-- where a function begins, as many are open as where it ends
pub function_balance : (is : List Item) (l : Lowered) (n : ℕ) (f : Function) (p : Place) → IsLoweredFunction is l n f p → opened l (past_function f p) ≡ opened l p
function_balance is l n f p h = opened_next l (past_block f.body p) _ h.returns ∙ block_balance _ l f.body p h.body

pub functions_balance : (is : List Item) (l : Lowered) (n : ℕ) (fs : List Function) (p : Place) → AreLoweredFunctions is l n fs p → opened l (past_functions fs p) ≡ opened l p
functions_balance is l n [] p h = refl
functions_balance is l n (f ∷ fs) p h =
    functions_balance is l (suc n) fs (past_function f p) h.1 ∙ function_balance is l n f p h.0
