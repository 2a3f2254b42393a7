-- Machinery of the proofs, not of the promise: the text of a tree part by part (docs/SOURCE.md, "Printing"), as
-- src/printer.rt writes it. What contracts cite is specs/Printed.
use Rattle.std.specs.Prelude.{ℕ, suc, ℤ, pos, negsuc, ◌+◌, List, [], ◌∷◌, ◌++◌, map}
use Rattle.std.specs.Int.Digits.{digits_of}
use Rattle.asl_grammar.specs.declared.token.Mark.{Mark}
use Rattle.asl_grammar.specs.declared.token.Mark.TheVariants as mark
use Rattle.asl_grammar.specs.Bytes.{mark_bytes}
use Rattle.asl_grammar.specs.Spelling.{symbol_of}
use Rattle.asl_syntax.specs.Tree.{Value, IntegerValue, NullValue, LocalValue, BinaryValue, GlobalValue, FieldValue, LoadValue, NewValue, CallValue, Statement, AssignStatement, StoreStatement, OutStatement, IfStatement, WhileStatement, AtomicStatement, Block, NoMore, Then, Function, Item, GlobalItem, FunctionItem}
use Rattle.asl_syntax.specs.Printed.{decimal, piece}

-- a word or symbol
abbrev pub mark_piece : Mark → List ℕ
mark_piece m = piece (mark_bytes m)

-- decimal digits, none for 0
abbrev pub digit_bytes : ℕ → List ℕ
digit_bytes n = map (λ d. d + 48) (digits_of 10 n)

-- a number
abbrev pub number_piece : ℕ → List ℕ
number_piece n = piece (decimal n)

-- names with a comma before each
abbrev pub later_names_bytes : List (List ℕ) → List ℕ
later_names_bytes [] = []
later_names_bytes (x ∷ xs) = mark_piece mark.Comma ++ (piece x ++ later_names_bytes xs)

-- names with commas between, from the first on
abbrev pub names_bytes : List (List ℕ) → List ℕ
names_bytes [] = []
names_bytes (x ∷ xs) = piece x ++ later_names_bytes xs

-- a number with a minus, where it is negative
abbrev pub integer_bytes : ℤ → List ℕ
integer_bytes (pos n) = number_piece n
integer_bytes (negsuc n) = mark_piece mark.Minus ++ number_piece (suc n)

-- what stands at the right of `=`
abbrev pub value_bytes : Value → List ℕ
value_bytes (IntegerValue z) = integer_bytes z
value_bytes NullValue = mark_piece mark.Null
value_bytes (LocalValue x) = piece x
value_bytes (BinaryValue x o y) = piece x ++ (mark_piece (symbol_of o) ++ piece y)
value_bytes (GlobalValue x) = mark_piece mark.Ampersand ++ piece x
value_bytes (FieldValue x n) =
    mark_piece mark.Ampersand ++ (piece x ++ (mark_piece mark.OpenBracket ++ (number_piece n ++ mark_piece mark.CloseBracket)))
value_bytes (LoadValue x) = mark_piece mark.Star ++ piece x
value_bytes (NewValue n) = mark_piece mark.New ++ number_piece n
value_bytes (CallValue f args) =
    piece f ++ (mark_piece mark.OpenParen ++ (names_bytes args ++ mark_piece mark.CloseParen))

-- what stands before the block of an `if` and of a `while`
abbrev pub if_head : List ℕ → List ℕ
if_head x = mark_piece mark.If ++ (piece x ++ mark_piece mark.OpenBrace)

-- what stands before the block of a `while`
abbrev pub while_head : List ℕ → List ℕ
while_head x = mark_piece mark.While ++ (piece x ++ mark_piece mark.OpenBrace)

-- what stands between the two blocks of an `if`, and after the second: an `else` is printed where it has statements
abbrev pub else_open : Block → List ℕ
else_open NoMore = mark_piece mark.CloseBrace
else_open (Then s b) = mark_piece mark.CloseBrace ++ (mark_piece mark.Else ++ mark_piece mark.OpenBrace)

-- what stands after the second block of an `if`: a brace where it has statements
abbrev pub else_close : Block → List ℕ
else_close NoMore = []
else_close (Then s b) = mark_piece mark.CloseBrace

-- statements without blocks
abbrev pub assign_bytes : List ℕ → Value → List ℕ
assign_bytes x v = piece x ++ (mark_piece mark.Becomes ++ (value_bytes v ++ mark_piece mark.Semicolon))

-- a store of the local y to the cell to which x points
abbrev pub store_bytes : List ℕ → List ℕ → List ℕ
store_bytes x y =
    mark_piece mark.Star ++ (piece x ++ (mark_piece mark.Becomes ++ (piece y ++ mark_piece mark.Semicolon)))

-- a statement that puts out the local x
abbrev pub out_bytes : List ℕ → List ℕ
out_bytes x = mark_piece mark.Out ++ (piece x ++ mark_piece mark.Semicolon)

-- statements
abbrev mutual
  pub statement_bytes : Statement → List ℕ
  statement_bytes (AssignStatement x v) = assign_bytes x v
  statement_bytes (StoreStatement x y) = store_bytes x y
  statement_bytes (OutStatement x) = out_bytes x
  statement_bytes (IfStatement x a b) =
      if_head x ++ (block_bytes a ++ (else_open b ++ (block_bytes b ++ else_close b)))
  statement_bytes (WhileStatement x a) = while_head x ++ (block_bytes a ++ mark_piece mark.CloseBrace)
  statement_bytes (AtomicStatement a) =
      (mark_piece mark.Atomic ++ mark_piece mark.OpenBrace) ++ (block_bytes a ++ mark_piece mark.CloseBrace)

  pub block_bytes : Block → List ℕ
  block_bytes NoMore = []
  block_bytes (Then s b) = statement_bytes s ++ block_bytes b

-- the head of a function, and its last line
abbrev pub head_bytes : Function → List ℕ
head_bytes f =
    mark_piece mark.Fn ++ (piece f.name ++ (mark_piece mark.OpenParen ++ (names_bytes f.parameters ++ (mark_piece mark.CloseParen ++ mark_piece mark.OpenBrace))))

-- the last line of a function that returns the local x, with its closing brace
abbrev pub last_line_bytes : List ℕ → List ℕ
last_line_bytes x = mark_piece mark.Return ++ (piece x ++ (mark_piece mark.Semicolon ++ mark_piece mark.CloseBrace))

-- a function
abbrev pub function_bytes : Function → List ℕ
function_bytes f = head_bytes f ++ (block_bytes f.body ++ last_line_bytes f.returned)

-- a global or a function
abbrev pub item_bytes : Item → List ℕ
item_bytes (GlobalItem x) = mark_piece mark.Global ++ (piece x ++ mark_piece mark.Semicolon)
item_bytes (FunctionItem f) = function_bytes f

-- the items of a program
abbrev pub items_bytes : List Item → List ℕ
items_bytes [] = []
items_bytes (i ∷ is) = item_bytes i ++ items_bytes is
