-- Machinery of the proofs, not of the promise: the code of a program as one list, computed: what the templates of
-- specs/Lowered put at each place. What contracts cite is `IsLowering` of specs/Lowered.
use Rattle.std.specs.Prelude.{ℕ, suc, List, [], ◌∷◌, ◌++◌, length, codes}
use Rattle.asl_code.specs.declared.image.Function as entry
use Rattle.asl_code.specs.declared.instr.Instr.{Instr}
use Rattle.asl_code.specs.declared.instr.Instr.TheVariants as instr
use Rattle.asl_syntax.specs.Tree.{Value, CallValue, Statement, AssignStatement, StoreStatement, OutStatement, IfStatement, WhileStatement, AtomicStatement, Block, NoMore, Then, Function, Item, globals_of, functions_of}
use Rattle.asl_lower.specs.declared.section.Section.{Section}
use Rattle.asl_lower.specs.Names.{Scope, register, number_of, function_names, scope_of}
use Rattle.asl_lower.specs.Place.{Place, origin, next, entered, past_block, past_stmt, past_else, past_function}
use Rattle.asl_lower.specs.Lowered.{value_instr, else_target, section_of, entry_of, Lowered, end_of}

-- a `mov` of each argument to the registers from `to` on
abbrev pub moves : Scope → List (List ℕ) → ℕ → List Instr
moves sc [] to = []
moves sc (a ∷ rest) to = instr.Move to (register sc a) ∷ moves sc rest (suc to)

-- the code of a value for a register, at a site
abbrev pub value_code : Scope → ℕ → ℕ → Value → List Instr
value_code sc to site (CallValue f args) =
    moves sc args (length sc.locals) ++ value_instr sc to site (CallValue f args) ∷ []
value_code sc to site v = value_instr sc to site v ∷ []

-- the code of a statement, a block, and what follows the block of an `if`, from a place on
abbrev mutual
  pub stmt_code : Scope → Statement → Place → List Instr
  stmt_code sc (AssignStatement x v) p = value_code sc (register sc x) p.site v
  stmt_code sc (StoreStatement x y) p = instr.Store (register sc x) (register sc y) ∷ []
  stmt_code sc (OutStatement x) p = instr.Output (register sc x) ∷ []
  stmt_code sc (IfStatement x a e) p =
      instr.JumpIfZero (register sc x) (else_target e (past_block a (next p))) ∷ (block_code sc a (next p) ++ else_code sc e (past_block a (next p)))
  stmt_code sc (WhileStatement x a) p =
      instr.JumpIfZero (register sc x) (past_stmt (WhileStatement x a) p).pc ∷ (block_code sc a (next p) ++ instr.Jump p.pc ∷ [])
  stmt_code sc (AtomicStatement a) p =
      instr.Acquire p.section ∷ (block_code sc a (entered p) ++ instr.Release ∷ [])

  pub block_code : Scope → Block → Place → List Instr
  block_code sc NoMore p = []
  block_code sc (Then s b) p = stmt_code sc s p ++ block_code sc b (past_stmt s p)

  pub else_code : Scope → Block → Place → List Instr
  else_code sc NoMore p = []
  else_code sc (Then s b) p =
      instr.Jump (past_else (Then s b) p).pc ∷ (stmt_code sc s (next p) ++ block_code sc b (past_stmt s (next p)))

-- the sections of a statement, a block, and what follows the block of an `if`, from a place on
abbrev mutual
  pub stmt_sections : Scope → Statement → Place → List Section
  stmt_sections sc (AssignStatement x v) p = []
  stmt_sections sc (StoreStatement x y) p = []
  stmt_sections sc (OutStatement x) p = []
  stmt_sections sc (IfStatement x a e) p = block_sections sc a (next p) ++ else_sections sc e (past_block a (next p))
  stmt_sections sc (WhileStatement x a) p = block_sections sc a (next p)
  stmt_sections sc (AtomicStatement a) p = section_of sc a p ∷ block_sections sc a (entered p)

  pub block_sections : Scope → Block → Place → List Section
  block_sections sc NoMore p = []
  block_sections sc (Then s b) p = stmt_sections sc s p ++ block_sections sc b (past_stmt s p)

  pub else_sections : Scope → Block → Place → List Section
  else_sections sc NoMore p = []
  else_sections sc (Then s b) p =
      stmt_sections sc s (next p) ++ block_sections sc b (past_stmt s (next p))

-- the code of a function
abbrev pub function_code : List Item → ℕ → Function → Place → List Instr
function_code is number f p =
    block_code (scope_of is number f) f.body p ++ instr.Return (register (scope_of is number f) f.returned) ∷ []

-- the code of functions from a number on
abbrev pub functions_code : List Item → ℕ → List Function → Place → List Instr
functions_code is number [] p = []
functions_code is number (f ∷ fs) p =
    function_code is number f p ++ functions_code is (suc number) fs (past_function f p)

-- the sections of functions from a number on
abbrev pub functions_sections : List Item → ℕ → List Function → Place → List Section
functions_sections is number [] p = []
functions_sections is number (f ∷ fs) p =
    block_sections (scope_of is number f) f.body p ++ functions_sections is (suc number) fs (past_function f p)

-- the table of functions from a place on
abbrev pub functions_table : List Function → Place → List entry.Function
functions_table [] p = []
functions_table (f ∷ fs) p = entry_of f p ∷ functions_table fs (past_function f p)

-- the computed lowering of a program
abbrev pub lowering_of : List Item → Lowered
lowering_of is =
    record {
      globals = length (globals_of is);
      functions = functions_table (functions_of is) origin;
      main = number_of (function_names (functions_of is)) (codes "main");
      code = functions_code is 0 (functions_of is) origin;
      sites = (end_of is).site;
      sections = functions_sections is 0 (functions_of is) origin;
    }
