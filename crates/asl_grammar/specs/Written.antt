-- A program as it is written: which rules of the grammar were taken, and with which names and numbers (docs/SOURCE.md,
-- "Grammar").
use Rattle.std.specs.Prelude.{ℕ, List, Bool}
use Rattle.asl_grammar.specs.declared.control.Operator.{Operator}

-- what stands at the right of `=`, but for a call; a number has a minus before it or not
pub data Right : Type 0 where
  Literal : Bool → ℕ → Right
  NullValue : Right
  Copied : List ℕ → Right
  Binary : List ℕ → Operator → List ℕ → Right
  GlobalAddress : List ℕ → Right
  FieldAddress : List ℕ → ℕ → Right
  Loaded : List ℕ → Right
  Created : ℕ → Right

-- a statement without blocks: an assignment, a call and its arguments, a store, an output
pub data Line : Type 0 where
  Assigns : List ℕ → Right → Line
  Calls : List ℕ → List ℕ → List (List ℕ) → Line
  Stores : List ℕ → List ℕ → Line
  Shows : List ℕ → Line

-- a statement, a block and what follows the block of an `if`
mutual
  pub data Stmt : Type 0 where
    Simple : Line → Stmt
    IfStmt : List ℕ → Block → Else → Stmt
    WhileStmt : List ℕ → Block → Stmt
    AtomicStmt : Block → Stmt

  pub data Block : Type 0 where
    End : Block
    More : Stmt → Block → Block

  pub data Else : Type 0 where
    NoElse : Else
    Otherwise : Block → Else

-- a function: its name, its parameters, its statements and the name that it returns
pub record Function : Type 0 where
  pub name : List ℕ
  pub parameters : List (List ℕ)
  pub body : Block
  pub returned : List ℕ

-- a global or a function
pub data Item : Type 0 where
  GlobalItem : List ℕ → Item
  FunctionItem : Function → Item
