-- Which statement of the text an instruction is of (docs/SOURCE.md, "The map").
use Rattle.std.specs.Prelude.{◌≡◌, ℕ, ◌+◌, ◌<◌, ◌≤◌, ◌⊎◌, List, [], ◌∷◌, length, drop}
use Rattle.asl_code.specs.declared.instr.Instr.TheVariants as instr
use Rattle.asl_grammar.specs.Token.{Spot}
use Rattle.asl_grammar.specs.Written as w
use Rattle.asl_grammar.specs.Spelling.{line_on, stmt_on, block_on, function_on}
use Rattle.asl_syntax.specs.Tree.{Function, Item}
use Rattle.asl_syntax.specs.Spelled.{line_meaning, stmt_meaning, block_meaning, function_meaning}
use Rattle.asl_lower.specs.Names.{scope_of, register}
use Rattle.asl_lower.specs.Place.{Place, origin, next, entered, past_block, past_stmt, past_function}
use Rattle.asl_lower.specs.Lowered.{Lowered, Has, IsLoweredStmt}
use Rattle.asl_map.specs.declared.text_piece.Kind.TheVariants as kind
use Rattle.asl_map.specs.declared.text_piece.Piece.{Piece}
use Rattle.asl_map.specs.Pieces.{piece, behind}
use Rattle.asl_map.specs.Placed.{head_of}

-- of items that stand at these tokens, and whose code begins at the place, `f` is a function; it stands at the tokens `ts`, and its
-- code begins at `q`
abbrev pub IsFunctionAt : List w.Item → List Spot → Place → w.Function → List Spot → Place → Type 0
IsFunctionAt [] ss p f ts q = ⊥
IsFunctionAt (w.GlobalItem x ∷ is) ss p f ts q = IsFunctionAt is (drop 3 ss) p f ts q
IsFunctionAt (w.FunctionItem g ∷ is) ss p f ts q =
    ((f ≡ g) × (ts ≡ ss) × (q ≡ p)) ⊎ IsFunctionAt is (behind (function_on g []) ss) (past_function (function_meaning g) p) f ts q

-- a block of the program, or what is left of one after some of its statements, stands at the tokens, and its code begins at the
-- place
pub data Stands (program : List w.Item) (text : List Spot) : w.Block → List Spot → Place → Type 0 where
  Body : (f : w.Function) (ss : List Spot) (p : Place) → IsFunctionAt program text origin f ss p → Stands program text f.body (behind (head_of f) ss) p
  Later : (s : w.Stmt) (b : w.Block) (ss : List Spot) (p : Place) → Stands program text (w.More s b) ss p → Stands program text b (behind (stmt_on s []) ss) (past_stmt (stmt_meaning s) p)
  OfIf : (x : List ℕ) (a : w.Block) (e : w.Else) (b : w.Block) (ss : List Spot) (p : Place) → Stands program text (w.More (w.IfStmt x a e) b) ss p → Stands program text a (drop 3 ss) (next p)
  OfElse : (x : List ℕ) (a : w.Block) (s : w.Stmt) (c b : w.Block) (ss : List Spot) (p : Place) → Stands program text (w.More (w.IfStmt x a (w.Otherwise (w.More s c))) b) ss p
      → Stands program text (w.More s c) (drop 3 (behind (block_on a []) (drop 3 ss))) (next (past_block (block_meaning a) (next p)))
  OfWhile : (x : List ℕ) (a b : w.Block) (ss : List Spot) (p : Place) → Stands program text (w.More (w.WhileStmt x a) b) ss p → Stands program text a (drop 3 ss) (next p)
  OfAtomic : (a b : w.Block) (ss : List Spot) (p : Place) → Stands program text (w.More (w.AtomicStmt a) b) ss p → Stands program text a (drop 2 ss) (entered p)

-- the statement stands at the tokens, and its code begins at the place: the instruction at the pc is its own, and of no statement in
-- it, and the piece is the statement, or what stands before its block, or the brace after it
abbrev pub IsOwn : w.Stmt → List Spot → Place → ℕ → Piece → Type 0
IsOwn (w.Simple l) ss p pc x =
    (p.pc ≤ pc) × (pc < (past_stmt (line_meaning l) p).pc) × (x ≡ piece kind.Line (length (line_on l []) + 1) ss)
IsOwn (w.IfStmt y a e) ss p pc x =
    ((pc ≡ p.pc) × (x ≡ piece kind.If 3 ss))
    ⊎ ((pc ≡ (past_block (block_meaning a) (next p)).pc) × (x ≡ piece kind.If 1 (behind (block_on a []) (drop 3 ss))))
IsOwn (w.WhileStmt y a) ss p pc x =
    ((pc ≡ p.pc) × (x ≡ piece kind.While 3 ss))
    ⊎ ((pc ≡ (past_block (block_meaning a) (next p)).pc) × (x ≡ piece kind.While 1 (behind (block_on a []) (drop 3 ss))))
IsOwn (w.AtomicStmt a) ss p pc x =
    ((pc ≡ p.pc) × (x ≡ piece kind.Atomic 2 ss))
    ⊎ ((pc ≡ (past_block (block_meaning a) (entered p)).pc) × (x ≡ piece kind.Atomic 1 (behind (block_on a []) (drop 2 ss))))

-- the instruction is of a statement of the text, which stands where the piece is, and whose code has the instruction
pub record IsOfStatement (is : List Item) (l : Lowered) (program : List w.Item) (text : List Spot) (pc : ℕ) (x : Piece) : Type 0 where
  pub number : ℕ
  pub function : Function
  pub statement : w.Stmt
  pub later : w.Block
  pub tokens : List Spot
  pub place : Place
  pub stands : Stands program text (w.More statement later) tokens place
  pub lowered : IsLoweredStmt (scope_of is number function) l (stmt_meaning statement) place
  pub own : IsOwn statement tokens place pc x

-- the instruction is the `ret` of a function of the text, and the piece is its `return x;`
pub record IsOfReturn (is : List Item) (l : Lowered) (program : List w.Item) (text : List Spot) (pc : ℕ) (x : Piece) : Type 0 where
  pub number : ℕ
  pub function : w.Function
  pub tokens : List Spot
  pub place : Place
  pub stands : IsFunctionAt program text origin function tokens place
  pub lowered : Has l (past_block (block_meaning function.body) place) (instr.Return (register (scope_of is number (function_meaning function)) function.returned))
  pub own : pc ≡ (past_block (block_meaning function.body) place).pc
  pub piece_is : x ≡ piece kind.Return 3 (behind (block_on function.body []) (behind (head_of function) tokens))
