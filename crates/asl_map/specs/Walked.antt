-- Machinery of the proofs, not of the promise: the pieces of all instructions of a program and where its functions stand, as
-- src/code_walk.rt finds them. What contracts promise is specs/Mapped.
use Rattle.std.specs.Prelude.{◌≡◌, ◌+◌, List, [], ◌∷◌, ◌++◌, drop, replicate, if◌then◌else◌}
use Rattle.asl_grammar.specs.Token.{Spot}
use Rattle.asl_grammar.specs.Reader.{spots_left}
use Rattle.asl_syntax.specs.Tree.{Statement, AssignStatement, StoreStatement, OutStatement, IfStatement, WhileStatement, AtomicStatement, Block, NoMore, Then, Function, Item, GlobalItem, FunctionItem}
use Rattle.asl_lower.specs.Size.{value_size}
use Rattle.asl_map.specs.declared.text_piece.Kind.TheVariants as kind
use Rattle.asl_map.specs.declared.text_piece.Piece.{Piece}
use Rattle.asl_map.specs.declared.text_piece.Named.{Named}
use Rattle.asl_map.specs.declared.walker.Walker.{Walker}
use Rattle.asl_map.specs.Pieces.{first_place}
use Rattle.asl_map.specs.Taken.{past_end, piece_of, brace_of, is_else}

-- the tokens after an empty `else`, if there is one
abbrev pub past_no_else : List Spot → List Spot
past_no_else ss = if is_else ss then drop 1 (past_end ss) else ss

-- the tokens after a statement, a block, and what follows the first block of an `if`, the brace first
abbrev mutual
  pub stmt_rest : Statement → List Spot → List Spot
  stmt_rest (AssignStatement x v) ss = past_end ss
  stmt_rest (StoreStatement x y) ss = past_end ss
  stmt_rest (OutStatement x) ss = past_end ss
  stmt_rest (IfStatement x a e) ss = else_rest e (block_rest a (past_end ss))
  stmt_rest (WhileStatement x a) ss = drop 1 (block_rest a (past_end ss))
  stmt_rest (AtomicStatement a) ss = drop 1 (block_rest a (past_end ss))

  pub block_rest : Block → List Spot → List Spot
  block_rest NoMore ss = ss
  block_rest (Then s b) ss = block_rest b (stmt_rest s ss)

  pub else_rest : Block → List Spot → List Spot
  else_rest NoMore ss = past_no_else (drop 1 ss)
  else_rest (Then s b) ss = drop 1 (block_rest b (stmt_rest s (past_end (drop 1 ss))))

-- the pieces of the instructions of the same
abbrev mutual
  pub stmt_pieces : Statement → List Spot → List Piece
  stmt_pieces (AssignStatement x v) ss = replicate (value_size v) (piece_of kind.Line ss)
  stmt_pieces (StoreStatement x y) ss = replicate 1 (piece_of kind.Line ss)
  stmt_pieces (OutStatement x) ss = replicate 1 (piece_of kind.Line ss)
  stmt_pieces (IfStatement x a e) ss =
      piece_of kind.If ss ∷ (block_pieces a (past_end ss) ++ else_pieces e (block_rest a (past_end ss)))
  stmt_pieces (WhileStatement x a) ss =
      piece_of kind.While ss ∷ (block_pieces a (past_end ss) ++ brace_of kind.While (block_rest a (past_end ss)) ∷ [])
  stmt_pieces (AtomicStatement a) ss =
      piece_of kind.Atomic ss ∷ (block_pieces a (past_end ss) ++ brace_of kind.Atomic (block_rest a (past_end ss)) ∷ [])

  pub block_pieces : Block → List Spot → List Piece
  block_pieces NoMore ss = []
  block_pieces (Then s b) ss = stmt_pieces s ss ++ block_pieces b (stmt_rest s ss)

  pub else_pieces : Block → List Spot → List Piece
  else_pieces NoMore ss = []
  else_pieces (Then s b) ss =
      brace_of kind.If ss ∷ (stmt_pieces s (past_end (drop 1 ss)) ++ block_pieces b (stmt_rest s (past_end (drop 1 ss))))

-- the tokens from the `return` of a function on, and after its last brace
abbrev pub return_rest : Function → List Spot → List Spot
return_rest f ss = block_rest f.body (past_end ss)

-- the tokens after the last brace of a function
abbrev pub function_rest : Function → List Spot → List Spot
function_rest f ss = drop 1 (past_end (return_rest f ss))

-- the pieces of a function, and where it stands
abbrev pub function_pieces : Function → List Spot → List Piece
function_pieces f ss = block_pieces f.body (past_end ss) ++ piece_of kind.Return (return_rest f ss) ∷ []

-- a function's name, the place of its `fn`, and the place after its last brace
abbrev pub named_of : Function → List Spot → Named
named_of f ss =
    record { name = f.name; from = first_place ss; to = first_place (past_end (return_rest f ss)) + 1 }

-- the same of a program
abbrev pub items_rest : List Item → List Spot → List Spot
items_rest [] ss = ss
items_rest (GlobalItem x ∷ is) ss = items_rest is (past_end ss)
items_rest (FunctionItem f ∷ is) ss = items_rest is (function_rest f ss)

-- the pieces of all instructions of a program
abbrev pub items_pieces : List Item → List Spot → List Piece
items_pieces [] ss = []
items_pieces (GlobalItem x ∷ is) ss = items_pieces is (past_end ss)
items_pieces (FunctionItem f ∷ is) ss = function_pieces f ss ++ items_pieces is (function_rest f ss)

-- where the functions of a program stand, with their names
abbrev pub items_named : List Item → List Spot → List Named
items_named [] ss = []
items_named (GlobalItem x ∷ is) ss = items_named is (past_end ss)
items_named (FunctionItem f ∷ is) ss = named_of f ss ∷ items_named is (function_rest f ss)

-- a walk adds these pieces, and leaves these tokens
pub record Walks (added : List Piece) (left : List Spot) (old new : Walker) : Type 0 where
  pub pieces : new.pieces.items ≡ old.pieces.items ++ added
  pub tokens : spots_left new.tokens ≡ left
