-- What the limits of a source ask of its tree (docs/SOURCE.md, "Refusals"). The law limits_are_of_the_tree ties it to
-- `first_limit` of specs/Limit, which counts tokens.
use Rattle.std.specs.Prelude.{ℕ, suc, ◌+◌, ◌≤◌, max, List, [], ◌∷◌, length, FitsSigned}
use Rattle.std.specs.Int.{w32}
use Rattle.std.specs.List.{All}
use Rattle.asl_syntax.specs.Tree.{Value, IntegerValue, NullValue, LocalValue, BinaryValue, GlobalValue, FieldValue, LoadValue, NewValue, CallValue, Statement, AssignStatement, StoreStatement, OutStatement, IfStatement, WhileStatement, AtomicStatement, Block, NoMore, Then, Function, Item, GlobalItem, FunctionItem, globals_of, functions_of}
use Rattle.asl_syntax.specs.Mentions.{Mention, mentions}
use Rattle.asl_syntax.specs.TokenNames.{mention_name}

-- how many sections stand in a statement, and in a block
abbrev mutual
  pub statement_sections : Statement → ℕ
  statement_sections (AssignStatement x v) = 0
  statement_sections (StoreStatement x y) = 0
  statement_sections (OutStatement x) = 0
  statement_sections (IfStatement x a b) = block_sections a + block_sections b
  statement_sections (WhileStatement x a) = block_sections a
  statement_sections (AtomicStatement a) = suc (block_sections a)

  pub block_sections : Block → ℕ
  block_sections NoMore = 0
  block_sections (Then s b) = statement_sections s + block_sections b

-- those of a program
abbrev pub sections_in : List Item → ℕ
sections_in [] = 0
sections_in (GlobalItem x ∷ is) = sections_in is
sections_in (FunctionItem f ∷ is) = block_sections f.body + sections_in is

-- how many blocks stand in one another, at the most, in a statement, and in the statements of a block
abbrev mutual
  pub statement_depth : Statement → ℕ
  statement_depth (AssignStatement x v) = 0
  statement_depth (StoreStatement x y) = 0
  statement_depth (OutStatement x) = 0
  statement_depth (IfStatement x a b) = suc (max (block_depth a) (block_depth b))
  statement_depth (WhileStatement x a) = suc (block_depth a)
  statement_depth (AtomicStatement a) = suc (block_depth a)

  pub block_depth : Block → ℕ
  block_depth NoMore = 0
  block_depth (Then s b) = max (statement_depth s) (block_depth b)

-- the number of a value, if it has one, is in its range
abbrev pub IsInRange : Value → Type 0
IsInRange (IntegerValue z) = FitsSigned w32 z
IsInRange NullValue = Unit {0}
IsInRange (LocalValue x) = Unit {0}
IsInRange (BinaryValue x o y) = Unit {0}
IsInRange (GlobalValue x) = Unit {0}
IsInRange (FieldValue x n) = n ≤ 255
IsInRange (LoadValue x) = Unit {0}
IsInRange (NewValue n) = (1 ≤ n) × (n ≤ 255)
IsInRange (CallValue f args) = Unit {0}

-- so is each number of a statement, and of a block
abbrev mutual
  pub HasNumbersInRange : Statement → Type 0
  HasNumbersInRange (AssignStatement x v) = IsInRange v
  HasNumbersInRange (StoreStatement x y) = Unit {0}
  HasNumbersInRange (OutStatement x) = Unit {0}
  HasNumbersInRange (IfStatement x a b) = AreNumbersInRange a × AreNumbersInRange b
  HasNumbersInRange (WhileStatement x a) = AreNumbersInRange a
  HasNumbersInRange (AtomicStatement a) = AreNumbersInRange a

  pub AreNumbersInRange : Block → Type 0
  AreNumbersInRange NoMore = Unit {0}
  AreNumbersInRange (Then s b) = HasNumbersInRange s × AreNumbersInRange b

-- a program is within the limits; the 64 braces that may be open at once are those of a function's body and of 63 blocks
pub record IsWithinLimits (tree : List Item) : Type 0 where
  pub functions : length (functions_of tree) ≤ 256
  pub globals : length (globals_of tree) ≤ 1024
  pub sections : sections_in tree ≤ 1024
  pub parameters : All (λ (f : Function). length f.parameters ≤ 4) (functions_of tree)
  pub blocks : All (λ (f : Function). block_depth f.body ≤ 63) (functions_of tree)
  pub names : All (λ (m : Mention). length (mention_name m) ≤ 64) (mentions tree)
  pub numbers : All (λ (f : Function). AreNumbersInRange f.body) (functions_of tree)
