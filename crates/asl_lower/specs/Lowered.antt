-- Which code a program has: each statement by its template, with the places that its jumps go to (docs/SOURCE.md, "Templates").
use Rattle.std.specs.Prelude.{◌≡◌, ℕ, suc, ◌-◌, List, [], ◌∷◌, length, Some, slice_get, codes}
use Rattle.asl_code.specs.declared.image.Function as entry
use Rattle.asl_code.specs.declared.instr.Instr.{Instr}
use Rattle.asl_code.specs.declared.instr.Instr.TheVariants as instr
use Rattle.asl_grammar.specs.declared.control.Operator.{Operator}
use Rattle.asl_grammar.specs.declared.control.Operator.TheVariants.{Add, Subtract, IsLess, IsEqual}
use Rattle.asl_syntax.specs.Tree.{Value, IntegerValue, NullValue, LocalValue, BinaryValue, GlobalValue, FieldValue, LoadValue, NewValue, CallValue, Statement, AssignStatement, StoreStatement, OutStatement, IfStatement, WhileStatement, AtomicStatement, Block, NoMore, Then, Function, Item, globals_of, functions_of}
use Rattle.asl_lower.specs.declared.section.Section.{Section}
use Rattle.asl_lower.specs.Names.{Scope, register, global_number, function_number, function_names, number_of, registers_of, scope_of}
use Rattle.asl_lower.specs.Place.{Place, origin, next, entered, past_moves, past_block, past_stmt, past_else, past_function, past_functions}

-- what a lowering is: how many globals there are, the functions, which of them is `main`, the code with site numbers
-- in `new` and section numbers in `acq`, how many sites there are, and the sections
pub record Lowered : Type 0 where
  pub globals : ℕ
  pub functions : List entry.Function
  pub main : ℕ
  pub code : List Instr
  pub sites : ℕ
  pub sections : List Section

-- the instruction stands at the place
abbrev pub Has : Lowered → Place → Instr → Type 0
Has l p i = slice_get l.code p.pc ≡ Some i

-- the instruction of an operator
abbrev pub operator_instr : Operator → ℕ → ℕ → ℕ → Instr
operator_instr Add x y z = instr.Add x y z
operator_instr Subtract x y z = instr.Subtract x y z
operator_instr IsLess x y z = instr.LessThan x y z
operator_instr IsEqual x y z = instr.Equals x y z

-- the first argument register, 0 where there are no arguments
abbrev pub first_argument : Scope → List (List ℕ) → ℕ
first_argument sc [] = 0
first_argument sc (a ∷ rest) = length sc.locals

-- the instruction that puts a value into a register; a `new` has the next site
abbrev pub value_instr : Scope → ℕ → ℕ → Value → Instr
value_instr sc to site (IntegerValue z) = instr.SetInt to z
value_instr sc to site NullValue = instr.SetNull to
value_instr sc to site (LocalValue y) = instr.Move to (register sc y)
value_instr sc to site (BinaryValue y o z) = operator_instr o to (register sc y) (register sc z)
value_instr sc to site (GlobalValue g) = instr.GlobalAddress to (global_number sc g)
value_instr sc to site (FieldValue y n) = instr.FieldAddress to (register sc y) n
value_instr sc to site (LoadValue y) = instr.Load to (register sc y)
value_instr sc to site (NewValue n) = instr.New to n site
value_instr sc to site (CallValue f args) = instr.Call to (first_argument sc args) (function_number sc f)

-- a `mov` of each argument to its argument register, of which `to` is the first
abbrev pub AreMoved : Scope → Lowered → List (List ℕ) → Place → ℕ → Type 0
AreMoved sc l [] p to = Unit {0}
AreMoved sc l (a ∷ rest) p to = Has l p (instr.Move to (register sc a)) × AreMoved sc l rest (next p) (suc to)

-- the code of a value for a register begins at the place
abbrev pub IsLoweredValue : Scope → Lowered → ℕ → Value → Place → Type 0
IsLoweredValue sc l to (CallValue f args) p =
    AreMoved sc l args p (length sc.locals) × Has l (past_moves args p) (value_instr sc to p.site (CallValue f args))
IsLoweredValue sc l to v p = Has l p (value_instr sc to p.site v)

-- where the `jz` of an `if` goes: after its block, and after the jump over the other block
abbrev pub else_target : Block → Place → ℕ
else_target NoMore p = p.pc
else_target (Then s b) p = suc p.pc

-- the section of a block that begins after the place
abbrev pub section_of : Scope → Block → Place → Section
section_of sc a p = record { function = sc.function; acquire = p.pc; release = (past_block a (entered p)).pc }

-- the code of a statement, of a block, and of what follows the block of an `if`, begins at the place
abbrev mutual
  pub IsLoweredStmt : Scope → Lowered → Statement → Place → Type 0
  IsLoweredStmt sc l (AssignStatement x v) p = IsLoweredValue sc l (register sc x) v p
  IsLoweredStmt sc l (StoreStatement x y) p = Has l p (instr.Store (register sc x) (register sc y))
  IsLoweredStmt sc l (OutStatement x) p = Has l p (instr.Output (register sc x))
  IsLoweredStmt sc l (IfStatement x a e) p =
      Has l p (instr.JumpIfZero (register sc x) (else_target e (past_block a (next p))))
      × IsLoweredBlock sc l a (next p)
      × IsLoweredElse sc l e (past_block a (next p))
  IsLoweredStmt sc l (WhileStatement x a) p =
      Has l p (instr.JumpIfZero (register sc x) (past_stmt (WhileStatement x a) p).pc)
      × IsLoweredBlock sc l a (next p)
      × Has l (past_block a (next p)) (instr.Jump p.pc)
  IsLoweredStmt sc l (AtomicStatement a) p =
      Has l p (instr.Acquire p.section)
      × IsLoweredBlock sc l a (entered p)
      × Has l (past_block a (entered p)) instr.Release
      × (slice_get l.sections p.section ≡ Some (section_of sc a p))

  pub IsLoweredBlock : Scope → Lowered → Block → Place → Type 0
  IsLoweredBlock sc l NoMore p = Unit {0}
  IsLoweredBlock sc l (Then s b) p = IsLoweredStmt sc l s p × IsLoweredBlock sc l b (past_stmt s p)

  pub IsLoweredElse : Scope → Lowered → Block → Place → Type 0
  IsLoweredElse sc l NoMore p = Unit {0}
  IsLoweredElse sc l (Then s b) p =
      Has l p (instr.Jump (past_else (Then s b) p).pc)
      × IsLoweredStmt sc l s (next p)
      × IsLoweredBlock sc l b (past_stmt s (next p))

-- the function's entry of the table: its parameters, its registers, the length of its body
abbrev pub entry_of : Function → Place → entry.Function
entry_of f p =
    record { params = length f.parameters; regs = registers_of f; len = (past_function f p).pc - p.pc }

-- the function of this number is in the table, and its body begins at the place; its last instruction is its `ret`
pub record IsLoweredFunction (is : List Item) (l : Lowered) (number : ℕ) (f : Function) (p : Place) : Type 0 where
  pub in_table : slice_get l.functions number ≡ Some (entry_of f p)
  pub body : IsLoweredBlock (scope_of is number f) l f.body p
  pub returns : Has l (past_block f.body p) (instr.Return (register (scope_of is number f) f.returned))

-- functions from this number on, one after the other from the place
abbrev pub AreLoweredFunctions : List Item → Lowered → ℕ → List Function → Place → Type 0
AreLoweredFunctions is l number [] p = Unit {0}
AreLoweredFunctions is l number (f ∷ fs) p =
    IsLoweredFunction is l number f p × AreLoweredFunctions is l (suc number) fs (past_function f p)

-- where the code of a program ends: how many instructions, sites and sections it has
abbrev pub end_of : List Item → Place
end_of is = past_functions (functions_of is) origin

-- `l` is the lowering of the program
pub record IsLowering (is : List Item) (l : Lowered) : Type 0 where
  pub globals : l.globals ≡ length (globals_of is)
  pub main : l.main ≡ number_of (function_names (functions_of is)) (codes "main")
  pub functions : length l.functions ≡ length (functions_of is)
  pub bodies : AreLoweredFunctions is l 0 (functions_of is) origin
  pub code : length l.code ≡ (end_of is).pc
  pub sites : l.sites ≡ (end_of is).site
  pub sections : length l.sections ≡ (end_of is).section
