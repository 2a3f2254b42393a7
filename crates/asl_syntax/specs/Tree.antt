-- The tree of a program as a value that contracts speak of: what the text means, without its redundant forms
-- (docs/SOURCE.md, "Grammar").
use Rattle.std.specs.Prelude.{ℕ, ℤ, List, [], ◌∷◌}
use Rattle.asl_grammar.specs.declared.control.Operator.{Operator}

-- what stands at the right of `=`
pub data Value : Type 0 where
  IntegerValue : ℤ → Value
  NullValue : Value
  LocalValue : List ℕ → Value
  BinaryValue : List ℕ → Operator → List ℕ → Value
  GlobalValue : List ℕ → Value
  FieldValue : List ℕ → ℕ → Value
  LoadValue : List ℕ → Value
  NewValue : ℕ → Value
  CallValue : List ℕ → List (List ℕ) → Value

-- a statement, and the statements of a block
mutual
  pub data Statement : Type 0 where
    AssignStatement : List ℕ → Value → Statement
    StoreStatement : List ℕ → List ℕ → Statement
    OutStatement : List ℕ → Statement
    IfStatement : List ℕ → Block → Block → Statement
    WhileStatement : List ℕ → Block → Statement
    AtomicStatement : Block → Statement

  pub data Block : Type 0 where
    NoMore : Block
    Then : Statement → Block → Block

-- a function: its name, its parameters, its statements and the local that it returns
pub record Function : Type 0 where
  pub name : List ℕ
  pub parameters : List (List ℕ)
  pub body : Block
  pub returned : List ℕ

-- a global or a function
pub data Item : Type 0 where
  GlobalItem : List ℕ → Item
  FunctionItem : Function → Item

-- the globals of a program in order
abbrev pub globals_of : List Item → List (List ℕ)
globals_of [] = []
globals_of (GlobalItem x ∷ is) = x ∷ globals_of is
globals_of (FunctionItem f ∷ is) = globals_of is

-- its functions in order
abbrev pub functions_of : List Item → List Function
functions_of [] = []
functions_of (GlobalItem x ∷ is) = functions_of is
functions_of (FunctionItem f ∷ is) = f ∷ functions_of is
