-- Where in the text the code of a program comes from (docs/SOURCE.md, "The map"). Each statement stands at its tokens, and its code begins
-- at its place, as specs/Lowered of asl_lower puts it there; its instructions have the piece of text that is the statement, or what
-- stands before its block, or the brace after it.
use Rattle.std.specs.Prelude.{◌≡◌, ℕ, suc, ◌+◌, ◌-◌, ◌<◌, ◌≤◌, List, [], ◌∷◌, length, drop, Some, slice_get}
use Rattle.asl_grammar.specs.declared.token.Mark.TheVariants as mark
use Rattle.asl_grammar.specs.Token.{Token, Fixed, Name, Spot}
use Rattle.asl_grammar.specs.Written as w
use Rattle.asl_grammar.specs.Spelling.{names_on, line_on, stmt_on, block_on, function_on}
use Rattle.asl_syntax.specs.Spelled.{line_meaning, stmt_meaning, block_meaning, function_meaning}
use Rattle.asl_lower.specs.Place.{Place, next, entered, past_block, past_stmt, past_function}
use Rattle.asl_map.specs.declared.map.Map.{Map}
use Rattle.asl_map.specs.declared.text_piece.Kind.TheVariants as kind
use Rattle.asl_map.specs.declared.text_piece.Piece.{Piece}
use Rattle.asl_map.specs.Pieces.{first_place, piece, behind}

-- the instruction at the place has the piece
abbrev pub HasPiece : List Piece → Place → Piece → Type 0
HasPiece pieces p x = slice_get pieces p.pc ≡ Some x

-- each instruction of a line has the whole line
abbrev pub IsPlacedLine : List Piece → w.Line → List Spot → Place → Type 0
IsPlacedLine pieces l ss p =
    (pc : ℕ) → p.pc ≤ pc → pc < (past_stmt (line_meaning l) p).pc → slice_get pieces pc ≡ Some (piece kind.Line (length (line_on l []) + 1) ss)

-- the instructions of a statement, of a block, and of what follows the block of an `if`, the brace first, have their pieces
abbrev mutual
  pub IsPlacedStmt : List Piece → w.Stmt → List Spot → Place → Type 0
  IsPlacedStmt pieces (w.Simple l) ss p = IsPlacedLine pieces l ss p
  IsPlacedStmt pieces (w.IfStmt x a e) ss p =
      HasPiece pieces p (piece kind.If 3 ss)
      × IsPlacedBlock pieces a (drop 3 ss) (next p)
      × IsPlacedElse pieces e (behind (block_on a []) (drop 3 ss)) (past_block (block_meaning a) (next p))
  IsPlacedStmt pieces (w.WhileStmt x a) ss p =
      HasPiece pieces p (piece kind.While 3 ss)
      × IsPlacedBlock pieces a (drop 3 ss) (next p)
      × HasPiece pieces (past_block (block_meaning a) (next p)) (piece kind.While 1 (behind (block_on a []) (drop 3 ss)))
  IsPlacedStmt pieces (w.AtomicStmt a) ss p =
      HasPiece pieces p (piece kind.Atomic 2 ss)
      × IsPlacedBlock pieces a (drop 2 ss) (entered p)
      × HasPiece pieces (past_block (block_meaning a) (entered p)) (piece kind.Atomic 1 (behind (block_on a []) (drop 2 ss)))

  pub IsPlacedBlock : List Piece → w.Block → List Spot → Place → Type 0
  IsPlacedBlock pieces w.End ss p = Unit {0}
  IsPlacedBlock pieces (w.More s b) ss p =
      IsPlacedStmt pieces s ss p × IsPlacedBlock pieces b (behind (stmt_on s []) ss) (past_stmt (stmt_meaning s) p)

  pub IsPlacedElse : List Piece → w.Else → List Spot → Place → Type 0
  IsPlacedElse pieces w.NoElse ss p = Unit {0}
  IsPlacedElse pieces (w.Otherwise w.End) ss p = Unit {0}
  IsPlacedElse pieces (w.Otherwise (w.More s b)) ss p =
      HasPiece pieces p (piece kind.If 1 ss)
      × IsPlacedStmt pieces s (drop 3 ss) (next p)
      × IsPlacedBlock pieces b (behind (stmt_on s []) (drop 3 ss)) (past_stmt (stmt_meaning s) (next p))

-- the tokens before the body of a function
abbrev pub head_of : w.Function → List Token
head_of f =
    Fixed mark.Fn ∷ Name f.name ∷ Fixed mark.OpenParen ∷ names_on f.parameters (Fixed mark.CloseParen ∷ Fixed mark.OpenBrace ∷ [])

-- the function has its name and stands from its `fn` to after its last brace; its body has its pieces, and its `ret` the whole
-- `return x;`
pub record IsPlacedFunction (m : Map) (number : ℕ) (f : w.Function) (ss : List Spot) (p : Place) : Type 0 where
  pub stands : slice_get m.functions.items number ≡ Some (record { name = f.name; from = first_place ss; to = first_place (drop (length (function_on f []) - 1) ss) + 1 })
  pub body : IsPlacedBlock m.pieces.items f.body (behind (head_of f) ss) p
  pub returns : HasPiece m.pieces.items (past_block (block_meaning f.body) p) (piece kind.Return 3 (behind (block_on f.body []) (behind (head_of f) ss)))

-- the functions of a program, from this number on
abbrev pub ArePlaced : Map → ℕ → List w.Item → List Spot → Place → Type 0
ArePlaced m number [] ss p = Unit {0}
ArePlaced m number (w.GlobalItem x ∷ is) ss p = ArePlaced m number is (drop 3 ss) p
ArePlaced m number (w.FunctionItem f ∷ is) ss p =
    IsPlacedFunction m number f ss p × ArePlaced m (suc number) is (behind (function_on f []) ss) (past_function (function_meaning f) p)
