-- The tree that a written program means, and which tokens spell a tree (docs/SOURCE.md, "Grammar").
use Rattle.std.specs.Prelude.{◌≡◌, ℕ, zero, suc, ℤ, pos, negsuc, List, [], Bool, true, false, map}
use Rattle.asl_grammar.specs.Token.{Token}
use Rattle.asl_grammar.specs.Written as w
use Rattle.asl_grammar.specs.Spelling.{program_on}
use Rattle.asl_syntax.specs.Tree.{Value, IntegerValue, NullValue, LocalValue, BinaryValue, GlobalValue, FieldValue, LoadValue, NewValue, CallValue, Statement, AssignStatement, StoreStatement, OutStatement, IfStatement, WhileStatement, AtomicStatement, Block, NoMore, Then, Function, Item, GlobalItem, FunctionItem}

-- a number with a minus before it; `-0` is 0
abbrev pub negative : ℕ → ℤ
negative zero = pos 0
negative (suc n) = negsuc n

-- a number as it is written
abbrev pub literal : Bool → ℕ → ℤ
literal true n = negative n
literal false n = pos n

-- what stands at the right of `=`
abbrev pub right_meaning : w.Right → Value
right_meaning (w.Literal minus n) = IntegerValue (literal minus n)
right_meaning w.NullValue = NullValue
right_meaning (w.Copied x) = LocalValue x
right_meaning (w.Binary x o y) = BinaryValue x o y
right_meaning (w.GlobalAddress x) = GlobalValue x
right_meaning (w.FieldAddress x n) = FieldValue x n
right_meaning (w.Loaded x) = LoadValue x
right_meaning (w.Created n) = NewValue n

-- a statement without blocks
abbrev pub line_meaning : w.Line → Statement
line_meaning (w.Assigns x r) = AssignStatement x (right_meaning r)
line_meaning (w.Calls x f args) = AssignStatement x (CallValue f args)
line_meaning (w.Stores x y) = StoreStatement x y
line_meaning (w.Shows x) = OutStatement x

-- statements and blocks; an empty `else` is as none
abbrev mutual
  pub stmt_meaning : w.Stmt → Statement
  stmt_meaning (w.Simple l) = line_meaning l
  stmt_meaning (w.IfStmt x a e) = IfStatement x (block_meaning a) (else_meaning e)
  stmt_meaning (w.WhileStmt x a) = WhileStatement x (block_meaning a)
  stmt_meaning (w.AtomicStmt a) = AtomicStatement (block_meaning a)

  pub block_meaning : w.Block → Block
  block_meaning w.End = NoMore
  block_meaning (w.More s b) = Then (stmt_meaning s) (block_meaning b)

  pub else_meaning : w.Else → Block
  else_meaning w.NoElse = NoMore
  else_meaning (w.Otherwise b) = block_meaning b

-- a function
abbrev pub function_meaning : w.Function → Function
function_meaning f =
    record { name = f.name; parameters = f.parameters; body = block_meaning f.body; returned = f.returned }

-- a global or a function
abbrev pub item_meaning : w.Item → Item
item_meaning (w.GlobalItem x) = GlobalItem x
item_meaning (w.FunctionItem f) = FunctionItem (function_meaning f)

-- the tokens are a written program that means the tree
pub record Spells (tree : List Item) (ts : List Token) : Type 0 where
  pub written : List w.Item
  pub meaning : map item_meaning written ≡ tree
  pub spelled : program_on written [] ≡ ts
