-- The grammar: which tokens a written program is (docs/SOURCE.md, "Grammar"). Each definition puts its tokens in front
-- of `rest`.
use Rattle.std.specs.Prelude.{ℕ, List, [], ◌∷◌, true, false}
use Rattle.asl_grammar.specs.declared.token.Mark.{Mark}
use Rattle.asl_grammar.specs.declared.token.Mark.TheVariants as mark
use Rattle.asl_grammar.specs.declared.control.Operator.{Operator}
use Rattle.asl_grammar.specs.declared.control.Operator.TheVariants.{Add, Subtract, IsLess, IsEqual}
use Rattle.asl_grammar.specs.Token.{Token, Fixed, Name, Number}
use Rattle.asl_grammar.specs.Written.{Right, Literal, NullValue, Copied, Binary, GlobalAddress, FieldAddress, Loaded, Created, Line, Assigns, Calls, Stores, Shows, Stmt, Simple, IfStmt, WhileStmt, AtomicStmt, Block, End, More, Else, NoElse, Otherwise, Function, Item, GlobalItem, FunctionItem}

-- the symbol of an operator
abbrev pub symbol_of : Operator → Mark
symbol_of Add = mark.Plus
symbol_of Subtract = mark.Minus
symbol_of IsLess = mark.Less
symbol_of IsEqual = mark.Same

-- names after a first one, each after a comma
abbrev pub later_names_on : List (List ℕ) → List Token → List Token
later_names_on [] rest = rest
later_names_on (x ∷ xs) rest = Fixed mark.Comma ∷ Name x ∷ later_names_on xs rest

-- names with commas between
abbrev pub names_on : List (List ℕ) → List Token → List Token
names_on [] rest = rest
names_on (x ∷ xs) rest = Name x ∷ later_names_on xs rest

-- rhs = [ "-" ] number | "null" | name | name operator name | "&" name | "&" name "[" number "]" | "*" name | "new" number
abbrev pub right_on : Right → List Token → List Token
right_on (Literal true n) rest = Fixed mark.Minus ∷ Number n ∷ rest
right_on (Literal false n) rest = Number n ∷ rest
right_on NullValue rest = Fixed mark.Null ∷ rest
right_on (Copied y) rest = Name y ∷ rest
right_on (Binary y o z) rest = Name y ∷ Fixed (symbol_of o) ∷ Name z ∷ rest
right_on (GlobalAddress y) rest = Fixed mark.Ampersand ∷ Name y ∷ rest
right_on (FieldAddress y n) rest =
    Fixed mark.Ampersand ∷ Name y ∷ Fixed mark.OpenBracket ∷ Number n ∷ Fixed mark.CloseBracket ∷ rest
right_on (Loaded y) rest = Fixed mark.Star ∷ Name y ∷ rest
right_on (Created n) rest = Fixed mark.New ∷ Number n ∷ rest

-- line = name "=" rhs | name "=" name "(" [ names ] ")" | "*" name "=" name | "out" name
abbrev pub line_on : Line → List Token → List Token
line_on (Assigns x r) rest = Name x ∷ Fixed mark.Becomes ∷ right_on r rest
line_on (Calls x f args) rest =
    Name x ∷ Fixed mark.Becomes ∷ Name f ∷ Fixed mark.OpenParen ∷ names_on args (Fixed mark.CloseParen ∷ rest)
line_on (Stores x y) rest = Fixed mark.Star ∷ Name x ∷ Fixed mark.Becomes ∷ Name y ∷ rest
line_on (Shows x) rest = Fixed mark.Out ∷ Name x ∷ rest

-- stmt = line ";" | "if" name block [ "else" block ] | "while" name block | "atomic" block, where block = "{" { stmt } "}";
-- `block_on` is the statements alone
abbrev mutual
  pub stmt_on : Stmt → List Token → List Token
  stmt_on (Simple l) rest = line_on l (Fixed mark.Semicolon ∷ rest)
  stmt_on (IfStmt x a e) rest =
      Fixed mark.If ∷ Name x ∷ Fixed mark.OpenBrace ∷ block_on a (Fixed mark.CloseBrace ∷ else_on e rest)
  stmt_on (WhileStmt x a) rest =
      Fixed mark.While ∷ Name x ∷ Fixed mark.OpenBrace ∷ block_on a (Fixed mark.CloseBrace ∷ rest)
  stmt_on (AtomicStmt a) rest = Fixed mark.Atomic ∷ Fixed mark.OpenBrace ∷ block_on a (Fixed mark.CloseBrace ∷ rest)

  pub block_on : Block → List Token → List Token
  block_on End rest = rest
  block_on (More s b) rest = stmt_on s (block_on b rest)

  pub else_on : Else → List Token → List Token
  else_on NoElse rest = rest
  else_on (Otherwise b) rest =
      Fixed mark.Else ∷ Fixed mark.OpenBrace ∷ block_on b (Fixed mark.CloseBrace ∷ rest)

-- function = "fn" name "(" [ names ] ")" "{" { stmt } "return" name ";" "}"
abbrev pub function_on : Function → List Token → List Token
function_on f rest =
    Fixed mark.Fn ∷ Name f.name ∷ Fixed mark.OpenParen ∷ names_on f.parameters
    (Fixed mark.CloseParen ∷ Fixed mark.OpenBrace ∷ block_on f.body
    (Fixed mark.Return ∷ Name f.returned ∷ Fixed mark.Semicolon ∷ Fixed mark.CloseBrace ∷ rest))

-- item = "global" name ";" | function
abbrev pub item_on : Item → List Token → List Token
item_on (GlobalItem x) rest = Fixed mark.Global ∷ Name x ∷ Fixed mark.Semicolon ∷ rest
item_on (FunctionItem f) rest = function_on f rest

-- program = { item }
abbrev pub program_on : List Item → List Token → List Token
program_on [] rest = rest
program_on (i ∷ is) rest = item_on i (program_on is rest)
