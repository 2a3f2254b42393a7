-- How a tree is written: without redundant signs and empty `else`s (docs/SOURCE.md, "Printing").
use Rattle.std.specs.Prelude.{ℕ, suc, ℤ, pos, negsuc, List, true, false, map}
use Rattle.asl_grammar.specs.Written as w
use Rattle.asl_syntax.specs.Tree.{Value, IntegerValue, NullValue, LocalValue, BinaryValue, GlobalValue, FieldValue, LoadValue, NewValue, CallValue, Statement, AssignStatement, StoreStatement, OutStatement, IfStatement, WhileStatement, AtomicStatement, Block, NoMore, Then, Function, Item, GlobalItem, FunctionItem}

-- a number with a sign only where it is negative
abbrev pub integer_writing : ℤ → w.Right
integer_writing (pos n) = w.Literal false n
integer_writing (negsuc n) = w.Literal true (suc n)

-- an assignment
abbrev pub assign_writing : List ℕ → Value → w.Line
assign_writing x (IntegerValue z) = w.Assigns x (integer_writing z)
assign_writing x NullValue = w.Assigns x w.NullValue
assign_writing x (LocalValue y) = w.Assigns x (w.Copied y)
assign_writing x (BinaryValue y o z) = w.Assigns x (w.Binary y o z)
assign_writing x (GlobalValue y) = w.Assigns x (w.GlobalAddress y)
assign_writing x (FieldValue y n) = w.Assigns x (w.FieldAddress y n)
assign_writing x (LoadValue y) = w.Assigns x (w.Loaded y)
assign_writing x (NewValue n) = w.Assigns x (w.Created n)
assign_writing x (CallValue f args) = w.Calls x f args

abbrev mutual
  pub statement_writing : Statement → w.Stmt
  statement_writing (AssignStatement x v) = w.Simple (assign_writing x v)
  statement_writing (StoreStatement x y) = w.Simple (w.Stores x y)
  statement_writing (OutStatement x) = w.Simple (w.Shows x)
  statement_writing (IfStatement x a b) = w.IfStmt x (block_writing a) (else_writing b)
  statement_writing (WhileStatement x a) = w.WhileStmt x (block_writing a)
  statement_writing (AtomicStatement a) = w.AtomicStmt (block_writing a)

  pub block_writing : Block → w.Block
  block_writing NoMore = w.End
  block_writing (Then s b) = w.More (statement_writing s) (block_writing b)

  pub else_writing : Block → w.Else
  else_writing NoMore = w.NoElse
  else_writing (Then s b) = w.Otherwise (w.More (statement_writing s) (block_writing b))

-- a function
abbrev pub function_writing : Function → w.Function
function_writing f =
    record { name = f.name; parameters = f.parameters; body = block_writing f.body; returned = f.returned }

-- a global or a function
abbrev pub item_writing : Item → w.Item
item_writing (GlobalItem x) = w.GlobalItem x
item_writing (FunctionItem f) = w.FunctionItem (function_writing f)

-- a program
abbrev pub writing : List Item → List w.Item
writing tree = map item_writing tree
