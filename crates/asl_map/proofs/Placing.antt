-- The pieces that the walk finds are those of the statements, each at the place where its code begins.
use Rattle.std.proofs.Common.{◌≡◌, ℕ, zero, suc, ◌+◌, ◌-◌, ◌<◌, ◌≤◌, false, List, [], ◌∷◌, length, drop, replicate, Some, slice_get, inl, inr, refl, ap, ◌∙◌, subst, arith, length-append, drop-drop}
use Rattle.std.proofs.lemmas.Bool.{cases_eq}
use Rattle.std.proofs.lemmas.List.{length-replicate}
use Rattle.asl_grammar.specs.declared.token.Mark.TheVariants as mark
use Rattle.asl_grammar.specs.Token.{Token, Fixed, Name, Spot}
use Rattle.asl_grammar.specs.Grammar.{bare}
use Rattle.asl_grammar.specs.Written as w
use Rattle.asl_grammar.specs.Spelling.{line_on, stmt_on, block_on, else_on}
use Rattle.asl_syntax.specs.Tree.{Statement, AssignStatement, StoreStatement, OutStatement, IfStatement, WhileStatement, AtomicStatement, Block, NoMore, Then}
use Rattle.asl_syntax.specs.Spelled.{line_meaning, stmt_meaning, block_meaning, else_meaning}
use Rattle.asl_lower.specs.Place.{Place, next, entered, past_block, past_stmt}
use Rattle.asl_lower.specs.Size.{stmt_size, block_size, else_size}
use Rattle.asl_lower.proofs.Sized.{stmt_sized, block_sized}
use Rattle.asl_lower.proofs.Slices.{StandAt, splits}
use Rattle.asl_map.specs.declared.text_piece.Kind.{Kind}
use Rattle.asl_map.specs.declared.text_piece.Kind.TheVariants as kind
use Rattle.asl_map.specs.declared.text_piece.Piece.{Piece}
use Rattle.asl_map.specs.Pieces.{first_place, piece, behind}
use Rattle.asl_map.specs.Taken.{past_end, piece_of, brace_of}
use Rattle.asl_map.specs.Walked.{stmt_rest, block_rest, stmt_pieces, block_pieces, else_pieces}
use Rattle.asl_map.specs.Placed.{IsPlacedLine, IsPlacedStmt, IsPlacedBlock, IsPlacedElse}
use Rattle.asl_map.proofs.StatementTokens.{Ends, line_ends, starts_else, block_no_else}
use Rattle.asl_map.proofs.Standing.{if_ends, while_ends, atomic_ends, else_ends, stmt_left, block_left, drop_one, left_end}

-- ---- how many pieces

mutual
  pub stmt_many : (s : Statement) (ss : List Spot) → length (stmt_pieces s ss) ≡ stmt_size s
  stmt_many (AssignStatement x v) ss = length-replicate _ _
  stmt_many (StoreStatement x y) ss = refl
  stmt_many (OutStatement x) ss = refl
  stmt_many (IfStatement x a e) ss =
      omega (arith, length-append (block_pieces a (past_end ss)) (else_pieces e (block_rest a (past_end ss))), block_many a (past_end ss), else_many e (block_rest a (past_end ss)))
  stmt_many (WhileStatement x a) ss =
      omega (arith, length-append (block_pieces a (past_end ss)) (brace_of kind.While (block_rest a (past_end ss)) ∷ []), block_many a (past_end ss))
  stmt_many (AtomicStatement a) ss =
      omega (arith, length-append (block_pieces a (past_end ss)) (brace_of kind.Atomic (block_rest a (past_end ss)) ∷ []), block_many a (past_end ss))

  pub block_many : (b : Block) (ss : List Spot) → length (block_pieces b ss) ≡ block_size b
  block_many NoMore ss = refl
  block_many (Then s b) ss =
      omega (arith, length-append (stmt_pieces s ss) (block_pieces b (stmt_rest s ss)), stmt_many s ss, block_many b (stmt_rest s ss))

  pub else_many : (e : Block) (ss : List Spot) → length (else_pieces e ss) ≡ else_size e
  else_many NoMore ss = refl
  else_many (Then s b) ss =
      omega (arith, length-append (stmt_pieces s (past_end (drop 1 ss))) (block_pieces b (stmt_rest s (past_end (drop 1 ss)))), stmt_many s (past_end (drop 1 ss)), block_many b (stmt_rest s (past_end (drop 1 ss))))

-- ---- pieces

-- what ends so is a piece of so many tokens
pub piece_is : (k : Kind) (front ts : List Token) (ss : List Spot) (n : ℕ) → n ≡ length front + 1 → Ends front ts ss → piece_of k ss ≡ piece k n ss
piece_is k front ts ss n count e =
    let made : ℕ → Piece = λ to. record { from = first_place ss; to = to; kind = k } in
    let same : length front ≡ n - 1 = omega (arith, count) in
    ap made (e.place ∙ ap (λ (i : ℕ). first_place (drop i ss) + 1) same)

line_pieces : (l : w.Line) (ss : List Spot) → stmt_pieces (line_meaning l) ss ≡ replicate (stmt_size (line_meaning l)) (piece_of kind.Line ss)
line_pieces (w.Assigns x r) ss = refl
line_pieces (w.Calls x f args) ss = refl
line_pieces (w.Stores x y) ss = refl
line_pieces (w.Shows x) ss = refl

-- each of so many copies
copies_stand : {A : Type 0} (xs : List A) (k n : ℕ) (x : A) → StandAt xs k (replicate n x) → (i : ℕ) → k ≤ i → i < k + n → slice_get xs i ≡ Some x
copies_stand xs k zero x h i low high = absurd (omega (arith, low, high))
copies_stand {A} xs k (suc n) x h i low high =
    elim (cases_eq k i) [
      | inl here ↦ (let P : ℕ → Type 0 = λ j. slice_get xs j ≡ Some x in subst P here h.0)
      | inr later ↦ copies_stand xs (suc k) n x h.1 i (omega (arith, low, later)) (omega (arith, high))
    ]

-- ---- statements

line_placed : (l : w.Line) (pieces : List Piece) (ts : List Token) (ss : List Spot) (p : Place) → bare ss ≡ stmt_on (w.Simple l) ts → StandAt pieces p.pc (stmt_pieces (line_meaning l) ss) → IsPlacedLine pieces l ss p
line_placed l pieces ts ss p e h pc low high =
    let P : List Piece → Type 0 = λ ys. StandAt pieces p.pc ys in
    copies_stand pieces p.pc (stmt_size (line_meaning l)) (piece_of kind.Line ss) (subst P (line_pieces l ss) h) pc low (omega (arith, high, stmt_sized (line_meaning l) p))
    ∙ ap Some (piece_is kind.Line (line_on l []) ts ss (length (line_on l []) + 1) refl (line_ends l ts ss e))

mutual
  pub stmt_placed : (s : w.Stmt) (pieces : List Piece) (ts : List Token) (ss : List Spot) (p : Place) → starts_else ts ≡ false → bare ss ≡ stmt_on s ts → StandAt pieces p.pc (stmt_pieces (stmt_meaning s) ss) → IsPlacedStmt pieces s ss p
  stmt_placed (w.Simple l) pieces ts ss p none e h = line_placed l pieces ts ss p e h
  stmt_placed (w.IfStmt x a y) pieces ts ss p none e h =
      let us = block_on a (Fixed mark.CloseBrace ∷ else_on y ts) in
      let head = if_ends x us ss e in
      let inside = left_end (Fixed mark.If ∷ Name x ∷ []) us ss head in
      let body = block_left a (Fixed mark.CloseBrace ∷ else_on y ts) (past_end ss) refl inside.tokens in
      let parts = splits pieces (suc p.pc) (past_block (block_meaning a) (next p)).pc (block_pieces (block_meaning a) (past_end ss)) _ (omega (arith, block_many (block_meaning a) (past_end ss), block_sized (block_meaning a) (next p))) h.1 in
      let Block : List Spot → Type 0 = λ r. IsPlacedBlock pieces a r (next p) in
      let Other : List Spot → Type 0 = λ r. IsPlacedElse pieces y r (past_block (block_meaning a) (next p)) in (
        h.0 ∙ ap Some (piece_is kind.If (Fixed mark.If ∷ Name x ∷ []) us ss 3 refl head),
        subst Block inside.behind (block_placed a pieces (Fixed mark.CloseBrace ∷ else_on y ts) (past_end ss) (next p) refl inside.tokens parts.0),
        subst Other (body.behind ∙ ap (λ (r : List Spot). behind (block_on a []) r) inside.behind) (else_placed y pieces ts (block_rest (block_meaning a) (past_end ss)) (past_block (block_meaning a) (next p)) none body.tokens parts.1),
      )
  stmt_placed (w.WhileStmt x a) pieces ts ss p none e h =
      let us = block_on a (Fixed mark.CloseBrace ∷ ts) in
      let head = while_ends x us ss e in
      let inside = left_end (Fixed mark.While ∷ Name x ∷ []) us ss head in
      let body = block_left a (Fixed mark.CloseBrace ∷ ts) (past_end ss) refl inside.tokens in
      let parts = splits pieces (suc p.pc) (past_block (block_meaning a) (next p)).pc (block_pieces (block_meaning a) (past_end ss)) _ (omega (arith, block_many (block_meaning a) (past_end ss), block_sized (block_meaning a) (next p))) h.1 in
      let Block : List Spot → Type 0 = λ r. IsPlacedBlock pieces a r (next p) in (
        h.0 ∙ ap Some (piece_is kind.While (Fixed mark.While ∷ Name x ∷ []) us ss 3 refl head),
        subst Block inside.behind (block_placed a pieces (Fixed mark.CloseBrace ∷ ts) (past_end ss) (next p) refl inside.tokens parts.0),
        parts.1.0 ∙ ap (λ (r : List Spot). Some (brace_of kind.While r)) (body.behind ∙ ap (λ (r : List Spot). behind (block_on a []) r) inside.behind),
      )
  stmt_placed (w.AtomicStmt a) pieces ts ss p none e h =
      let us = block_on a (Fixed mark.CloseBrace ∷ ts) in
      let head = atomic_ends us ss e in
      let inside = left_end (Fixed mark.Atomic ∷ []) us ss head in
      let body = block_left a (Fixed mark.CloseBrace ∷ ts) (past_end ss) refl inside.tokens in
      let parts = splits pieces (suc p.pc) (past_block (block_meaning a) (entered p)).pc (block_pieces (block_meaning a) (past_end ss)) _ (omega (arith, block_many (block_meaning a) (past_end ss), block_sized (block_meaning a) (entered p))) h.1 in
      let Block : List Spot → Type 0 = λ r. IsPlacedBlock pieces a r (entered p) in (
        h.0 ∙ ap Some (piece_is kind.Atomic (Fixed mark.Atomic ∷ []) us ss 2 refl head),
        subst Block inside.behind (block_placed a pieces (Fixed mark.CloseBrace ∷ ts) (past_end ss) (entered p) refl inside.tokens parts.0),
        parts.1.0 ∙ ap (λ (r : List Spot). Some (brace_of kind.Atomic r)) (body.behind ∙ ap (λ (r : List Spot). behind (block_on a []) r) inside.behind),
      )

  pub block_placed : (b : w.Block) (pieces : List Piece) (ts : List Token) (ss : List Spot) (p : Place) → starts_else ts ≡ false → bare ss ≡ block_on b ts → StandAt pieces p.pc (block_pieces (block_meaning b) ss) → IsPlacedBlock pieces b ss p
  block_placed w.End pieces ts ss p none e h = tt
  block_placed (w.More s b) pieces ts ss p none e h =
      let first = stmt_left s (block_on b ts) ss (block_no_else b ts none) e in
      let parts = splits pieces p.pc (past_stmt (stmt_meaning s) p).pc (stmt_pieces (stmt_meaning s) ss) _ (omega (arith, stmt_many (stmt_meaning s) ss, stmt_sized (stmt_meaning s) p)) h in
      let Rest : List Spot → Type 0 = λ r. IsPlacedBlock pieces b r (past_stmt (stmt_meaning s) p) in (
        stmt_placed s pieces (block_on b ts) ss p (block_no_else b ts none) e parts.0,
        subst Rest first.behind (block_placed b pieces ts (stmt_rest (stmt_meaning s) ss) (past_stmt (stmt_meaning s) p) none first.tokens parts.1),
      )

  pub else_placed : (y : w.Else) (pieces : List Piece) (ts : List Token) (ss : List Spot) (p : Place) → starts_else ts ≡ false → bare ss ≡ Fixed mark.CloseBrace ∷ else_on y ts → StandAt pieces p.pc (else_pieces (else_meaning y) ss) → IsPlacedElse pieces y ss p
  else_placed w.NoElse pieces ts ss p none e h = tt
  else_placed (w.Otherwise w.End) pieces ts ss p none e h = tt
  else_placed (w.Otherwise (w.More s b)) pieces ts ss p none e h =
      let us = block_on b (Fixed mark.CloseBrace ∷ ts) in
      let brace = drop_one (Fixed mark.CloseBrace) (Fixed mark.Else ∷ Fixed mark.OpenBrace ∷ stmt_on s us) ss e in
      let inside = left_end (Fixed mark.Else ∷ []) (stmt_on s us) (drop 1 ss) (else_ends (stmt_on s us) (drop 1 ss) brace.tokens) in
      let there : past_end (drop 1 ss) ≡ drop 3 ss = inside.behind ∙ drop-drop 2 1 ss in
      let first = stmt_left s us (past_end (drop 1 ss)) (block_no_else b (Fixed mark.CloseBrace ∷ ts) refl) inside.tokens in
      let parts = splits pieces (suc p.pc) (past_stmt (stmt_meaning s) (next p)).pc (stmt_pieces (stmt_meaning s) (past_end (drop 1 ss))) _ (omega (arith, stmt_many (stmt_meaning s) (past_end (drop 1 ss)), stmt_sized (stmt_meaning s) (next p))) h.1 in
      let First : List Spot → Type 0 = λ r. IsPlacedStmt pieces s r (next p) in
      let Rest : List Spot → Type 0 = λ r. IsPlacedBlock pieces b r (past_stmt (stmt_meaning s) (next p)) in (
        h.0,
        subst First there (stmt_placed s pieces us (past_end (drop 1 ss)) (next p) (block_no_else b (Fixed mark.CloseBrace ∷ ts) refl) inside.tokens parts.0),
        subst Rest (first.behind ∙ ap (λ (r : List Spot). behind (stmt_on s []) r) there) (block_placed b pieces (Fixed mark.CloseBrace ∷ ts) (stmt_rest (stmt_meaning s) (past_end (drop 1 ss))) (past_stmt (stmt_meaning s) (next p)) refl first.tokens parts.1),
      )
