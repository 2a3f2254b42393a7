-- The computed code of a statement, a function and a program is as long as its places say, and so is the list of its sections.
use Rattle.std.proofs.Common.{◌≡◌, ℕ, suc, ◌+◌, List, [], ◌∷◌, length, refl, ap, arith, length-append}
use Rattle.asl_code.specs.declared.instr.Instr.{Instr}
use Rattle.asl_code.specs.declared.instr.Instr.TheVariants as instr
use Rattle.asl_syntax.specs.Tree.{Value, IntegerValue, NullValue, LocalValue, BinaryValue, GlobalValue, FieldValue, LoadValue, NewValue, CallValue, Statement, AssignStatement, StoreStatement, OutStatement, IfStatement, WhileStatement, AtomicStatement, Block, NoMore, Then, Function, Item}
use Rattle.asl_lower.specs.Names.{Scope, register, scope_of}
use Rattle.asl_lower.specs.Place.{Place, next, entered, past_moves, past_value, past_stmt, past_block, past_else, past_function, past_functions}
use Rattle.asl_lower.specs.Layout.{moves, value_code, stmt_code, block_code, else_code, stmt_sections, block_sections, else_sections, function_code, functions_code, functions_sections, functions_table}
use Rattle.asl_lower.proofs.Sections.{value_sections}

-- the code of a statement is as long as its places say
pub moves_length : (sc : Scope) (args : List (List ℕ)) (p : Place) (to : ℕ) → p.pc + length (moves sc args to) ≡ (past_moves args p).pc
moves_length sc [] p to = omega arith
moves_length sc (a ∷ rest) p to = omega (arith, moves_length sc rest (next p) (suc to))

pub value_length : (sc : Scope) (to : ℕ) (v : Value) (p : Place) → p.pc + length (value_code sc to p.site v) ≡ (past_value v p).pc
value_length sc to (IntegerValue z) p = omega arith
value_length sc to NullValue p = omega arith
value_length sc to (LocalValue y) p = omega arith
value_length sc to (BinaryValue y o z) p = omega arith
value_length sc to (GlobalValue g) p = omega arith
value_length sc to (FieldValue y n) p = omega arith
value_length sc to (LoadValue y) p = omega arith
value_length sc to (NewValue n) p = omega arith
value_length sc to (CallValue f args) p =
    omega (arith, moves_length sc args p (length sc.locals), length-append {A = Instr})

mutual
  pub stmt_length : (sc : Scope) (s : Statement) (p : Place) → p.pc + length (stmt_code sc s p) ≡ (past_stmt s p).pc
  stmt_length sc (AssignStatement x v) p = value_length sc (register sc x) v p
  stmt_length sc (StoreStatement x y) p = omega arith
  stmt_length sc (OutStatement x) p = omega arith
  stmt_length sc (IfStatement x a e) p =
      omega (arith, length-append (block_code sc a (next p)) (else_code sc e (past_block a (next p))), block_length sc a (next p), else_length sc e (past_block a (next p)))
  stmt_length sc (WhileStatement x a) p =
      omega (arith, length-append (block_code sc a (next p)) (instr.Jump p.pc ∷ []), block_length sc a (next p))
  stmt_length sc (AtomicStatement a) p =
      omega (arith, length-append (block_code sc a (entered p)) (instr.Release ∷ []), block_length sc a (entered p))

  pub block_length : (sc : Scope) (b : Block) (p : Place) → p.pc + length (block_code sc b p) ≡ (past_block b p).pc
  block_length sc NoMore p = omega arith
  block_length sc (Then s b) p =
      omega (arith, length-append (stmt_code sc s p) (block_code sc b (past_stmt s p)), stmt_length sc s p, block_length sc b (past_stmt s p))

  pub else_length : (sc : Scope) (e : Block) (p : Place) → p.pc + length (else_code sc e p) ≡ (past_else e p).pc
  else_length sc NoMore p = omega arith
  else_length sc (Then s b) p =
      omega (arith, length-append (stmt_code sc s (next p)) (block_code sc b (past_stmt s (next p))), stmt_length sc s (next p), block_length sc b (past_stmt s (next p)))

-- and so are its sections
mutual
  pub stmt_section_count : (sc : Scope) (s : Statement) (p : Place) → p.section + length (stmt_sections sc s p) ≡ (past_stmt s p).section
  stmt_section_count sc (AssignStatement x v) p = omega (arith, value_sections v p)
  stmt_section_count sc (StoreStatement x y) p = omega arith
  stmt_section_count sc (OutStatement x) p = omega arith
  stmt_section_count sc (IfStatement x a e) p =
      omega (arith, length-append (block_sections sc a (next p)) (else_sections sc e (past_block a (next p))), block_section_count sc a (next p), else_section_count sc e (past_block a (next p)))
  stmt_section_count sc (WhileStatement x a) p = omega (arith, block_section_count sc a (next p))
  stmt_section_count sc (AtomicStatement a) p = omega (arith, block_section_count sc a (entered p))

  pub block_section_count : (sc : Scope) (b : Block) (p : Place) → p.section + length (block_sections sc b p) ≡ (past_block b p).section
  block_section_count sc NoMore p = omega arith
  block_section_count sc (Then s b) p =
      omega (arith, length-append (stmt_sections sc s p) (block_sections sc b (past_stmt s p)), stmt_section_count sc s p, block_section_count sc b (past_stmt s p))

  pub else_section_count : (sc : Scope) (e : Block) (p : Place) → p.section + length (else_sections sc e p) ≡ (past_else e p).section
  else_section_count sc NoMore p = omega arith
  else_section_count sc (Then s b) p =
      omega (arith, length-append (stmt_sections sc s (next p)) (block_sections sc b (past_stmt s (next p))), stmt_section_count sc s (next p), block_section_count sc b (past_stmt s (next p)))

-- the computed code of functions
pub function_length : (is : List Item) (n : ℕ) (f : Function) (p : Place) → p.pc + length (function_code is n f p) ≡ (past_function f p).pc
function_length is n f p =
    omega (arith, length-append {A = Instr}, block_length (scope_of is n f) f.body p)

pub functions_length : (is : List Item) (n : ℕ) (fs : List Function) (p : Place) → p.pc + length (functions_code is n fs p) ≡ (past_functions fs p).pc
functions_length is n [] p = omega arith
functions_length is n (f ∷ fs) p =
    omega (arith, length-append (function_code is n f p) (functions_code is (suc n) fs (past_function f p)), function_length is n f p, functions_length is (suc n) fs (past_function f p))

pub functions_section_count : (is : List Item) (n : ℕ) (fs : List Function) (p : Place) → p.section + length (functions_sections is n fs p) ≡ (past_functions fs p).section
functions_section_count is n [] p = omega arith
functions_section_count is n (f ∷ fs) p =
    omega (arith, length-append (block_sections (scope_of is n f) f.body p) (functions_sections is (suc n) fs (past_function f p)), block_section_count (scope_of is n f) f.body p, functions_section_count is (suc n) fs (past_function f p))

pub table_length : (fs : List Function) (p : Place) → length (functions_table fs p) ≡ length fs
table_length [] p = refl
table_length (f ∷ fs) p = ap suc (table_length fs (past_function f p))
