-- A map has the pieces and the functions that a walk over its source finds, and no others.
use Rattle.std.proofs.Common.{◌≡◌, ℕ, suc, ◌+◌, ◌<◌, ◌≤◌, inl, inr, List, [], ◌∷◌, length, map, drop, Some, None, slice_get, refl, sym, ap, ap₂, ◌∙◌, subst, arith}
use Rattle.std.proofs.lemmas.Bool.{cases_eq, cases_lt}
use Rattle.asl_grammar.specs.declared.token.Mark.TheVariants as mark
use Rattle.asl_grammar.specs.Token.{Fixed, Name, Spot}
use Rattle.asl_grammar.specs.Grammar.{bare}
use Rattle.asl_grammar.specs.Lex.{tokens_of}
use Rattle.asl_grammar.specs.Written as w
use Rattle.asl_grammar.specs.Spelling.{stmt_on, block_on, program_on}
use Rattle.asl_syntax.specs.Tree.{Item, functions_of}
use Rattle.asl_syntax.specs.Spelled.{stmt_meaning, block_meaning, else_meaning, function_meaning, item_meaning}
use Rattle.asl_lower.specs.Place.{Place, origin, next, entered, past_block, past_stmt, past_else, past_function, past_functions}
use Rattle.asl_lower.proofs.Sized.{functions_sized}
use Rattle.asl_lower.proofs.Slices.{StandAt, splits, stands_whole, whole_same}
use Rattle.asl_map.specs.declared.map.Map.{Map}
use Rattle.asl_map.specs.declared.text_piece.Named.{Named}
use Rattle.asl_map.specs.declared.text_piece.Piece.{Piece}
use Rattle.asl_map.specs.Pieces.{first_place, behind}
use Rattle.asl_map.specs.Placed.{head_of, IsPlacedStmt, IsPlacedBlock, IsPlacedElse, ArePlaced}
use Rattle.asl_map.specs.Taken.{past_end}
use Rattle.asl_map.specs.Walked.{function_rest, function_pieces, items_pieces, items_named}
use Rattle.asl_map.specs.Mapped.{IsMapped}
use Rattle.asl_map.proofs.StatementTokens.{ends}
use Rattle.asl_map.proofs.Standing.{left_end}
use Rattle.asl_map.proofs.Mapping.{parts_of, function_many, function_laid, items_many, named_many}

-- lists of the same length that have the same at each place are the same
pub same_below : {X : Type 0} (xs ys : List X) → length xs ≡ length ys → ((n : ℕ) → n < length xs → slice_get xs n ≡ slice_get ys n) → xs ≡ ys
same_below [] [] e h = refl
same_below [] (y ∷ ys) e h = absurd (omega (arith, e))
same_below (x ∷ xs) [] e h = absurd (omega (arith, e))
same_below (x ∷ xs) (y ∷ ys) e h =
    let here : Some x ≡ Some y = h 0 (omega arith) in
    let same : x ≡ y = cc in
    ap₂ (λ a bs. a ∷ bs) same (same_below xs ys (omega (arith, e)) (λ n lt. h (suc n) (omega (arith, lt))))

-- ---- what is placed for the same statements is the same

same_one : (xs ys : List Piece) (k pc : ℕ) (x : Piece) → k ≡ pc → slice_get xs k ≡ Some x → slice_get ys k ≡ Some x → slice_get xs pc ≡ slice_get ys pc
same_one xs ys k pc x e a b = let P : ℕ → Type 0 = λ n. slice_get xs n ≡ slice_get ys n in subst P e (a ∙ sym b)

mutual
  stmt_same : (xs ys : List Piece) (s : w.Stmt) (ss : List Spot) (p : Place) (pc : ℕ) → IsPlacedStmt xs s ss p → IsPlacedStmt ys s ss p → p.pc ≤ pc → pc < (past_stmt (stmt_meaning s) p).pc → slice_get xs pc ≡ slice_get ys pc
  stmt_same xs ys (w.Simple l) ss p pc a b low high = a pc low high ∙ sym (b pc low high)
  stmt_same xs ys (w.IfStmt x t e) ss p pc a b low high =
      let B = past_block (block_meaning t) (next p) in
      elim (cases_eq p.pc pc) [
        | inl first ↦ same_one xs ys p.pc pc _ first a.0 b.0
        | inr after_it ↦ elim (cases_lt pc B.pc) [
          | inl inside ↦ block_same xs ys t (drop 3 ss) (next p) pc a.1 b.1 (omega (arith, low, after_it)) inside
          | inr past ↦ else_same xs ys e (behind (block_on t []) (drop 3 ss)) B pc a.2 b.2 past high
        ]
      ]
  stmt_same xs ys (w.WhileStmt x t) ss p pc a b low high =
      let B = past_block (block_meaning t) (next p) in
      elim (cases_eq p.pc pc) [
        | inl first ↦ same_one xs ys p.pc pc _ first a.0 b.0
        | inr after_it ↦ elim (cases_lt pc B.pc) [
          | inl inside ↦ block_same xs ys t (drop 3 ss) (next p) pc a.1 b.1 (omega (arith, low, after_it)) inside
          | inr past ↦ (let last : B.pc ≡ pc = omega (arith, past, high) in same_one xs ys B.pc pc _ last a.2 b.2)
        ]
      ]
  stmt_same xs ys (w.AtomicStmt t) ss p pc a b low high =
      let B = past_block (block_meaning t) (entered p) in
      elim (cases_eq p.pc pc) [
        | inl first ↦ same_one xs ys p.pc pc _ first a.0 b.0
        | inr after_it ↦ elim (cases_lt pc B.pc) [
          | inl inside ↦ block_same xs ys t (drop 2 ss) (entered p) pc a.1 b.1 (omega (arith, low, after_it)) inside
          | inr past ↦ (let last : B.pc ≡ pc = omega (arith, past, high) in same_one xs ys B.pc pc _ last a.2 b.2)
        ]
      ]

  block_same : (xs ys : List Piece) (b : w.Block) (ss : List Spot) (p : Place) (pc : ℕ) → IsPlacedBlock xs b ss p → IsPlacedBlock ys b ss p → p.pc ≤ pc → pc < (past_block (block_meaning b) p).pc → slice_get xs pc ≡ slice_get ys pc
  block_same xs ys w.End ss p pc a b low high = absurd (omega (arith, low, high))
  block_same xs ys (w.More s t) ss p pc a b low high =
      elim (cases_lt pc (past_stmt (stmt_meaning s) p).pc) [
        | inl inside ↦ stmt_same xs ys s ss p pc a.0 b.0 low inside
        | inr past ↦ block_same xs ys t (behind (stmt_on s []) ss) (past_stmt (stmt_meaning s) p) pc a.1 b.1 past high
      ]

  -- after the first block of an `if`
  else_same : (xs ys : List Piece) (e : w.Else) (ss : List Spot) (p : Place) (pc : ℕ) → IsPlacedElse xs e ss p → IsPlacedElse ys e ss p → p.pc ≤ pc → pc < (past_else (else_meaning e) p).pc → slice_get xs pc ≡ slice_get ys pc
  else_same xs ys w.NoElse ss p pc a b low high = absurd (omega (arith, low, high))
  else_same xs ys (w.Otherwise w.End) ss p pc a b low high = absurd (omega (arith, low, high))
  else_same xs ys (w.Otherwise (w.More s t)) ss p pc a b low high =
      elim (cases_eq p.pc pc) [
        | inl first ↦ same_one xs ys p.pc pc _ first a.0 b.0
        | inr after_it ↦ elim (cases_lt pc (past_stmt (stmt_meaning s) (next p)).pc) [
          | inl inside ↦ stmt_same xs ys s (drop 3 ss) (next p) pc a.1 b.1 (omega (arith, low, after_it)) inside
          | inr past ↦ block_same xs ys t (behind (stmt_on s []) (drop 3 ss)) (past_stmt (stmt_meaning s) (next p)) pc a.2 b.2 past high
        ]
      ]

-- ---- programs

-- of the functions from a number on the map has what stands in the other list
items_same : (is : List w.Item) (m : Map) (ys : List Piece) (number : ℕ) (ss : List Spot) (p : Place) (pc : ℕ) → bare ss ≡ program_on is [] → ArePlaced m number is ss p → StandAt ys p.pc (items_pieces (map item_meaning is) ss)
    → p.pc ≤ pc → pc < (past_functions (functions_of (map item_meaning is)) p).pc → slice_get m.pieces.items pc ≡ slice_get ys pc
items_same [] m ys number ss p pc e at stand low high = absurd (omega (arith, low, high))
items_same (w.GlobalItem x ∷ is) m ys number ss p pc e at stand low high =
    let end = left_end (Fixed mark.Global ∷ Name x ∷ []) (program_on is []) ss (ends (Fixed mark.Global ∷ Name x ∷ []) (Fixed mark.Semicolon) (program_on is []) ss (refl, (refl, tt)) refl e) in
    let P : List Spot → Type 0 = λ r. ArePlaced m number is r p in
    items_same is m ys number (past_end ss) p pc end.tokens (subst P (sym end.behind) at) stand low high
items_same (w.FunctionItem f ∷ is) m ys number ss p pc e at stand low high =
    let t = parts_of f (program_on is []) ss e in
    let g = function_meaning f in
    let B = past_block (block_meaning f.body) p in
    let split = splits ys p.pc (past_function g p).pc (function_pieces g ss) _ (function_many f ss p) stand in
    let laid = function_laid f ys (program_on is []) ss p t split.0 in
    let P : List Spot → Type 0 = λ r. ArePlaced m (suc number) is r (past_function g p) in
    elim (cases_lt pc B.pc) [
      | inl inside ↦ block_same m.pieces.items ys f.body (behind (head_of f) ss) p pc at.0.body laid.body low inside
      | inr past ↦ elim (cases_eq B.pc pc) [
        | inl here ↦ same_one m.pieces.items ys B.pc pc _ here at.0.returns laid.returns
        | inr after_it ↦ items_same is m ys (suc number) (function_rest g ss) (past_function g p) pc t.whole.tokens (subst P (sym t.whole.behind) at.1) split.1 (omega (arith, past, after_it)) high
      ]
    ]

named_same : (is : List w.Item) (m : Map) (number : ℕ) (ss : List Spot) (p : Place) → bare ss ≡ program_on is [] → ArePlaced m number is ss p → StandAt m.functions.items number (items_named (map item_meaning is) ss)
named_same [] m number ss p e at = tt
named_same (w.GlobalItem x ∷ is) m number ss p e at =
    let end = left_end (Fixed mark.Global ∷ Name x ∷ []) (program_on is []) ss (ends (Fixed mark.Global ∷ Name x ∷ []) (Fixed mark.Semicolon) (program_on is []) ss (refl, (refl, tt)) refl e) in
    let P : List Spot → Type 0 = λ r. ArePlaced m number is r p in
    named_same is m number (past_end ss) p end.tokens (subst P (sym end.behind) at)
named_same (w.FunctionItem f ∷ is) m number ss p e at =
    let t = parts_of f (program_on is []) ss e in
    let g = function_meaning f in
    let ends_at : ℕ → Named = λ n. record { name = f.name; from = first_place ss; to = n + 1 } in
    let P : List Spot → Type 0 = λ r. ArePlaced m (suc number) is r (past_function g p) in (
      at.0.stands ∙ ap (λ (r : List Spot). Some (ends_at (first_place r))) (sym t.last.behind),
      named_same is m (suc number) (function_rest g ss) (past_function g p) t.whole.tokens (subst P (sym t.whole.behind) at.1),
    )

-- the pieces and the functions of a map
pub has_walked : (source : List ℕ) (m : Map) (h : IsMapped source m) → (m.pieces.items ≡ items_pieces h.tree (tokens_of source)) × (m.functions.items ≡ items_named h.tree (tokens_of source))
has_walked source m h =
    let ss = tokens_of source in
    let spells = h.parses.spelled.spelled in
    let is : List Item = map item_meaning spells.written in
    let ys = items_pieces is ss in
    let e : bare ss ≡ program_on spells.written [] = sym spells.spelled in
    let end : length h.lowered.code ≡ (past_functions (functions_of is) origin).pc = h.lowering.code ∙ ap (λ (js : List Item). (past_functions (functions_of js) origin).pc) (sym spells.meaning) in
    let long : length m.pieces.items ≡ length ys = omega (arith, h.pieces, end, items_many is ss, functions_sized (functions_of is) origin) in
    let many : length m.functions.items ≡ length (items_named is ss) = h.functions ∙ h.lowering.functions ∙ ap (λ (js : List Item). length (functions_of js)) (sym spells.meaning) ∙ sym (named_many is ss) in (
      same_below m.pieces.items ys long (λ n low. items_same spells.written m ys 0 ss origin n e h.placed (stands_whole ys) (omega arith) (omega (arith, low, h.pieces, end)))
          ∙ ap (λ (js : List Item). items_pieces js ss) spells.meaning,
      whole_same m.functions.items (items_named is ss) (named_same spells.written m 0 ss origin e h.placed) many
          ∙ ap (λ (js : List Item). items_named js ss) spells.meaning,
    )
