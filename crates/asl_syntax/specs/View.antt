-- The code's tree (src/tree.rt) as the value that contracts speak of (docs/SOURCE.md, "Grammar").
use Rattle.std.specs.Prelude.{List, [], ◌∷◌, map, Vec}
use Rattle.std.specs.declared.alloc.Global.{Global}
use Rattle.asl_syntax.specs.declared.tree.Value as value
use Rattle.asl_syntax.specs.declared.tree.Value.TheVariants as values
use Rattle.asl_syntax.specs.declared.tree.Statement as code
use Rattle.asl_syntax.specs.declared.tree.Statement.TheOpen as layer
use Rattle.asl_syntax.specs.declared.tree.Function as function
use Rattle.asl_syntax.specs.declared.tree.Item as item
use Rattle.asl_syntax.specs.declared.tree.Item.TheVariants as items
use Rattle.asl_syntax.specs.Tree.{Value, IntegerValue, NullValue, LocalValue, BinaryValue, GlobalValue, FieldValue, LoadValue, NewValue, CallValue, Statement, AssignStatement, StoreStatement, OutStatement, IfStatement, WhileStatement, AtomicStatement, Block, NoMore, Then, Function, Item, GlobalItem, FunctionItem}

-- what stands at the right of `=`
abbrev pub value_of : value.Value → Value
value_of (values.Number z) = IntegerValue z
value_of values.Null = NullValue
value_of (values.Local x) = LocalValue x
value_of (values.Binary x o y) = BinaryValue x o y
value_of (values.Global x) = GlobalValue x
value_of (values.Field x n) = FieldValue x n
value_of (values.Load x) = LoadValue x
value_of (values.New n) = NewValue n
value_of (values.Call f args) = CallValue f args.items

-- a list of statements as a block
abbrev pub block : List Statement → Block
block [] = NoMore
block (s ∷ ss) = Then s (block ss)

-- one level of a statement, whose blocks are seen already
abbrev pub layer_of : layer.Statement-F Statement → Statement
layer_of (layer.Assign x v) = AssignStatement x (value_of v)
layer_of (layer.Store x y) = StoreStatement x y
layer_of (layer.Out x) = OutStatement x
layer_of (layer.If x a b) = IfStatement x (block a.items) (block b.items)
layer_of (layer.While x a) = WhileStatement x (block a.items)
layer_of (layer.Atomic a) = AtomicStatement (block a.items)

-- a statement
abbrev pub statement_of : code.Statement → Statement
statement_of = code.fold-Statement Statement layer_of

-- the statements of a block
abbrev pub block_of : List code.Statement → Block
block_of ss = block (map statement_of ss)

-- a function
abbrev pub function_of : function.Function → Function
function_of f =
    record { name = f.name; parameters = f.parameters.items; body = block_of f.body.items; returned = f.returned }

-- a global or a function
abbrev pub item_of : item.Item → Item
item_of (items.Global x) = GlobalItem x
item_of (items.Function f) = FunctionItem (function_of f)

-- the items of a program
abbrev pub items_of : Vec item.Item Global → List Item
items_of v = map item_of v.items
