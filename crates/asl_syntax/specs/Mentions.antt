-- The names of a program in the order of the text, each with what it does where it stands (docs/SOURCE.md, "Grammar").
use Rattle.std.specs.Prelude.{ℕ, List, [], ◌∷◌, ◌++◌, map, length}
use Rattle.asl_syntax.specs.Tree.{Value, IntegerValue, NullValue, LocalValue, BinaryValue, GlobalValue, FieldValue, LoadValue, NewValue, CallValue, Statement, AssignStatement, StoreStatement, OutStatement, IfStatement, WhileStatement, AtomicStatement, Block, NoMore, Then, Function, Item, GlobalItem, FunctionItem}

-- a global, a function or a parameter is declared, a local is assigned, a local or a global is used, or a function is
-- called with so many arguments
pub data Mention : Type 0 where
  DeclaresGlobal : List ℕ → Mention
  DeclaresFunction : List ℕ → Mention
  DeclaresParameter : List ℕ → Mention
  AssignsLocal : List ℕ → Mention
  UsesLocal : List ℕ → Mention
  UsesGlobal : List ℕ → Mention
  CallsFunction : List ℕ → ℕ → Mention

-- the names of a value
abbrev pub value_mentions : Value → List Mention
value_mentions (IntegerValue z) = []
value_mentions NullValue = []
value_mentions (LocalValue x) = UsesLocal x ∷ []
value_mentions (BinaryValue x o y) = UsesLocal x ∷ UsesLocal y ∷ []
value_mentions (GlobalValue x) = UsesGlobal x ∷ []
value_mentions (FieldValue x n) = UsesLocal x ∷ []
value_mentions (LoadValue x) = UsesLocal x ∷ []
value_mentions (NewValue n) = []
value_mentions (CallValue f args) = CallsFunction f (length args) ∷ map UsesLocal args

-- the names of statements
abbrev mutual
  pub statement_mentions : Statement → List Mention
  statement_mentions (AssignStatement x v) = AssignsLocal x ∷ value_mentions v
  statement_mentions (StoreStatement x y) = UsesLocal x ∷ UsesLocal y ∷ []
  statement_mentions (OutStatement x) = UsesLocal x ∷ []
  statement_mentions (IfStatement x a b) = UsesLocal x ∷ (block_mentions a ++ block_mentions b)
  statement_mentions (WhileStatement x a) = UsesLocal x ∷ block_mentions a
  statement_mentions (AtomicStatement a) = block_mentions a

  pub block_mentions : Block → List Mention
  block_mentions NoMore = []
  block_mentions (Then s b) = statement_mentions s ++ block_mentions b

-- the names of a function
abbrev pub function_mentions : Function → List Mention
function_mentions f =
    DeclaresFunction f.name ∷ (map DeclaresParameter f.parameters ++ (block_mentions f.body ++ UsesLocal f.returned ∷ []))

-- the names of a global or a function
abbrev pub item_mentions : Item → List Mention
item_mentions (GlobalItem x) = DeclaresGlobal x ∷ []
item_mentions (FunctionItem f) = function_mentions f

-- the names of a program
abbrev pub mentions : List Item → List Mention
mentions [] = []
mentions (i ∷ is) = item_mentions i ++ mentions is
