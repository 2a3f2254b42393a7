-- Each instruction is of a statement of the text.
use Rattle.std.proofs.Common.{◌≡◌, ℕ, suc, ◌+◌, ◌<◌, ◌≤◌, ◌⊎◌, inl, inr, List, [], ◌∷◌, length, drop, map, Some, slice_get, refl, sym, ap, ◌∙◌, subst, arith}
use Rattle.std.proofs.lemmas.Bool.{cases_eq, cases_lt}
use Rattle.std.proofs.lemmas.Option.{slice_get_within}
use Rattle.asl_grammar.specs.Token.{Spot}
use Rattle.asl_grammar.specs.Lex.{tokens_of}
use Rattle.asl_grammar.specs.Written as w
use Rattle.asl_grammar.specs.Spelling.{line_on, stmt_on, block_on, function_on}
use Rattle.asl_syntax.specs.Tree.{Function, Item, functions_of}
use Rattle.asl_syntax.specs.Spelled.{stmt_meaning, block_meaning, else_meaning, function_meaning, item_meaning}
use Rattle.asl_lower.specs.Names.{scope_of}
use Rattle.asl_lower.specs.Place.{Place, origin, next, entered, past_block, past_stmt, past_else, past_function, past_functions}
use Rattle.asl_lower.specs.Lowered.{Lowered, IsLoweredStmt, IsLoweredBlock, IsLoweredElse, AreLoweredFunctions}
use Rattle.asl_map.specs.declared.map.Map.{Map}
use Rattle.asl_map.specs.declared.text_piece.Kind.TheVariants as kind
use Rattle.asl_map.specs.declared.text_piece.Piece.{Piece}
use Rattle.asl_map.specs.Pieces.{piece, behind}
use Rattle.asl_map.specs.Placed.{head_of, IsPlacedStmt, IsPlacedBlock, IsPlacedElse, ArePlaced}
use Rattle.asl_map.specs.Origin.{IsFunctionAt, Stands, Body, Later, OfIf, OfElse, OfWhile, OfAtomic, IsOwn, IsOfStatement, IsOfReturn}
use Rattle.asl_map.specs.Mapped.{IsMapped}

-- what the proof is about: the program, its text, its lowering, and the pieces of its instructions
pub record About : Type 0 where
  pub items : List Item
  pub lowered : Lowered
  pub program : List w.Item
  pub text : List Spot
  pub pieces : List Piece

-- the instruction has a piece that comes so
abbrev Comes : About → ℕ → Type 0
Comes t pc =
    (x : Piece) × (slice_get t.pieces pc ≡ Some x) × (IsOfStatement t.items t.lowered t.program t.text pc x ⊎ IsOfReturn t.items t.lowered t.program t.text pc x)

-- where a statement stands
record Here (t : About) (number : ℕ) (f : Function) (s : w.Stmt) (b : w.Block) (ss : List Spot) (p : Place) : Type 0 where
  stands : Stands t.program t.text (w.More s b) ss p
  lowered : IsLoweredStmt (scope_of t.items number f) t.lowered (stmt_meaning s) p

comes : (t : About) (number : ℕ) (f : Function) (s : w.Stmt) (b : w.Block) (ss : List Spot) (p : Place) (pc : ℕ) (x : Piece) → Here t number f s b ss p → slice_get t.pieces pc ≡ Some x → IsOwn s ss p pc x → Comes t pc
comes t number f s b ss p pc x h at own =
    (x, at, inl (record { number = number; function = f; statement = s; later = b; tokens = ss; place = p; stands = h.stands; lowered = h.lowered; own = own }))

at_pc : (pieces : List Piece) (k pc : ℕ) (x : Piece) → k ≡ pc → slice_get pieces k ≡ Some x → slice_get pieces pc ≡ Some x
at_pc pieces k pc x e h = let P : ℕ → Type 0 = λ n. slice_get pieces n ≡ Some x in subst P e h

mutual
  stmt_comes : (t : About) (number : ℕ) (f : Function) (s : w.Stmt) (b : w.Block) (ss : List Spot) (p : Place) (pc : ℕ) → Here t number f s b ss p → IsPlacedStmt t.pieces s ss p → p.pc ≤ pc → pc < (past_stmt (stmt_meaning s) p).pc → Comes t pc
  stmt_comes t number f (w.Simple l) b ss p pc h at low high =
      comes t number f (w.Simple l) b ss p pc (piece kind.Line (length (line_on l []) + 1) ss) h (at pc low high) (low, high, refl)
  stmt_comes t number f (w.IfStmt x a e) b ss p pc h at low high =
      let B = past_block (block_meaning a) (next p) in
      elim (cases_eq p.pc pc) [
        | inl first ↦ comes t number f (w.IfStmt x a e) b ss p pc (piece kind.If 3 ss) h (at_pc t.pieces p.pc pc _ first at.0) (inl (sym first, refl))
        | inr after_it ↦ elim (cases_lt pc B.pc) [
          | inl inside ↦ block_comes t number f a (drop 3 ss) (next p) pc (OfIf x a e b ss p h.stands) h.lowered.1 at.1 (omega (arith, low, after_it)) inside
          | inr past ↦ else_comes t number f x a e b ss p pc h at.2 h.lowered.2 past high
        ]
      ]
  stmt_comes t number f (w.WhileStmt x a) b ss p pc h at low high =
      let B = past_block (block_meaning a) (next p) in
      elim (cases_eq p.pc pc) [
        | inl first ↦ comes t number f (w.WhileStmt x a) b ss p pc (piece kind.While 3 ss) h (at_pc t.pieces p.pc pc _ first at.0) (inl (sym first, refl))
        | inr after_it ↦ elim (cases_lt pc B.pc) [
          | inl inside ↦ block_comes t number f a (drop 3 ss) (next p) pc (OfWhile x a b ss p h.stands) h.lowered.1 at.1 (omega (arith, low, after_it)) inside
          | inr past ↦ (let last : B.pc ≡ pc = omega (arith, past, high) in
              comes t number f (w.WhileStmt x a) b ss p pc (piece kind.While 1 (behind (block_on a []) (drop 3 ss))) h (at_pc t.pieces B.pc pc _ last at.2) (inr (sym last, refl)))
        ]
      ]
  stmt_comes t number f (w.AtomicStmt a) b ss p pc h at low high =
      let B = past_block (block_meaning a) (entered p) in
      elim (cases_eq p.pc pc) [
        | inl first ↦ comes t number f (w.AtomicStmt a) b ss p pc (piece kind.Atomic 2 ss) h (at_pc t.pieces p.pc pc _ first at.0) (inl (sym first, refl))
        | inr after_it ↦ elim (cases_lt pc B.pc) [
          | inl inside ↦ block_comes t number f a (drop 2 ss) (entered p) pc (OfAtomic a b ss p h.stands) h.lowered.1 at.1 (omega (arith, low, after_it)) inside
          | inr past ↦ (let last : B.pc ≡ pc = omega (arith, past, high) in
              comes t number f (w.AtomicStmt a) b ss p pc (piece kind.Atomic 1 (behind (block_on a []) (drop 2 ss))) h (at_pc t.pieces B.pc pc _ last at.2) (inr (sym last, refl)))
        ]
      ]

  block_comes : (t : About) (number : ℕ) (f : Function) (b : w.Block) (ss : List Spot) (p : Place) (pc : ℕ) → Stands t.program t.text b ss p → IsLoweredBlock (scope_of t.items number f) t.lowered (block_meaning b) p → IsPlacedBlock t.pieces b ss p → p.pc ≤ pc → pc < (past_block (block_meaning b) p).pc → Comes t pc
  block_comes t number f w.End ss p pc st lo at low high = absurd (omega (arith, low, high))
  block_comes t number f (w.More s b) ss p pc st lo at low high =
      elim (cases_lt pc (past_stmt (stmt_meaning s) p).pc) [
        | inl inside ↦ stmt_comes t number f s b ss p pc (record { stands = st; lowered = lo.0 }) at.0 low inside
        | inr past ↦ block_comes t number f b (behind (stmt_on s []) ss) (past_stmt (stmt_meaning s) p) pc (Later s b ss p st) lo.1 at.1 past high
      ]

  -- after the first block of an `if`
  else_comes : (t : About) (number : ℕ) (f : Function) (x : List ℕ) (a : w.Block) (e : w.Else) (b : w.Block) (ss : List Spot) (p : Place) (pc : ℕ) → Here t number f (w.IfStmt x a e) b ss p
      → IsPlacedElse t.pieces e (behind (block_on a []) (drop 3 ss)) (past_block (block_meaning a) (next p))
      → IsLoweredElse (scope_of t.items number f) t.lowered (else_meaning e) (past_block (block_meaning a) (next p))
      → (past_block (block_meaning a) (next p)).pc ≤ pc → pc < (past_else (else_meaning e) (past_block (block_meaning a) (next p))).pc → Comes t pc
  else_comes t number f x a w.NoElse b ss p pc h at lo low high = absurd (omega (arith, low, high))
  else_comes t number f x a (w.Otherwise w.End) b ss p pc h at lo low high = absurd (omega (arith, low, high))
  else_comes t number f x a (w.Otherwise (w.More s c)) b ss p pc h at lo low high =
      let B = past_block (block_meaning a) (next p) in
      let brace = behind (block_on a []) (drop 3 ss) in
      let st : Stands t.program t.text (w.More s c) (drop 3 brace) (next B) = OfElse x a s c b ss p h.stands in
      elim (cases_eq B.pc pc) [
        | inl first ↦ comes t number f (w.IfStmt x a (w.Otherwise (w.More s c))) b ss p pc (piece kind.If 1 brace) h (at_pc t.pieces B.pc pc _ first at.0) (inr (sym first, refl))
        | inr after_it ↦ elim (cases_lt pc (past_stmt (stmt_meaning s) (next B)).pc) [
          | inl inside ↦ stmt_comes t number f s c (drop 3 brace) (next B) pc (record { stands = st; lowered = lo.1 }) at.1 (omega (arith, low, after_it)) inside
          | inr past ↦ block_comes t number f c (behind (stmt_on s []) (drop 3 brace)) (past_stmt (stmt_meaning s) (next B)) pc (Later s c (drop 3 brace) (next B) st) lo.2 at.2 past high
        ]
      ]

-- functions from a number on
items_come : (t : About) (m : Map) (is : List w.Item) (number : ℕ) (ss : List Spot) (p : Place) (pc : ℕ) → t.pieces ≡ m.pieces.items
    → ((f : w.Function) (ts : List Spot) (q : Place) → IsFunctionAt is ss p f ts q → IsFunctionAt t.program t.text origin f ts q)
    → ArePlaced m number is ss p → AreLoweredFunctions t.items t.lowered number (functions_of (map item_meaning is)) p → p.pc ≤ pc → pc < (past_functions (functions_of (map item_meaning is)) p).pc → Comes t pc
items_come t m [] number ss p pc same up at lo low high = absurd (omega (arith, low, high))
items_come t m (w.GlobalItem x ∷ is) number ss p pc same up at lo low high =
    items_come t m is number (drop 3 ss) p pc same up at lo low high
items_come t m (w.FunctionItem g ∷ is) number ss p pc same up at lo low high =
    let B = past_block (block_meaning g.body) p in
    let stands = up g ss p (inl (refl, refl, refl)) in
    let body : IsPlacedBlock t.pieces g.body (behind (head_of g) ss) p = (let P : List Piece → Type 0 = λ ys. IsPlacedBlock ys g.body (behind (head_of g) ss) p in subst P (sym same) at.0.body) in
    elim (cases_lt pc B.pc) [
      | inl inside ↦ block_comes t number (function_meaning g) g.body (behind (head_of g) ss) p pc (Body g ss p stands) lo.0.body body low inside
      | inr past ↦ elim (cases_eq B.pc pc) [
        | inl here ↦ (let r : Piece = piece kind.Return 3 (behind (block_on g.body []) (behind (head_of g) ss)) in
            let P : List Piece → Type 0 = λ ys. slice_get ys B.pc ≡ Some r in
            (r, at_pc t.pieces B.pc pc r here (subst P (sym same) at.0.returns), inr (record { number = number; function = g; tokens = ss; place = p; stands = stands; lowered = lo.0.returns; own = sym here; piece_is = refl })))
        | inr after_it ↦ items_come t m is (suc number) (behind (function_on g []) ss) (past_function (function_meaning g) p) pc same (λ f ts q later. up f ts q (inr later)) at.1 lo.1 (omega (arith, past, after_it)) high
      ]
    ]

pub each_comes : (source : List ℕ) (m : Map) (h : IsMapped source m) (pc : ℕ) (x : Piece) → slice_get m.pieces.items pc ≡ Some x
    → IsOfStatement h.tree h.lowered h.parses.spelled.spelled.written (tokens_of source) pc x ⊎ IsOfReturn h.tree h.lowered h.parses.spelled.spelled.written (tokens_of source) pc x
each_comes source m h pc x at =
    let spells = h.parses.spelled.spelled in
    let t : About = record { items = h.tree; lowered = h.lowered; program = spells.written; text = tokens_of source; pieces = m.pieces.items } in
    let Bodies : List Item → Type 0 = λ is. AreLoweredFunctions h.tree h.lowered 0 (functions_of is) origin in
    let end : length h.lowered.code ≡ (past_functions (functions_of (map item_meaning spells.written)) origin).pc = h.lowering.code ∙ ap (λ (is : List Item). (past_functions (functions_of is) origin).pc) (sym spells.meaning) in
    let within : pc < (past_functions (functions_of (map item_meaning spells.written)) origin).pc = omega (arith, slice_get_within m.pieces.items pc x at, h.pieces, end) in
    let found : Comes t pc = items_come t m spells.written 0 (tokens_of source) origin pc refl (λ f ts q is. is) h.placed (subst Bodies (sym spells.meaning) h.lowering.bodies) (omega arith) within in
    let same : found.0 ≡ x = (let q : Some found.0 ≡ Some x = sym found.1 ∙ at in cc) in
    let P : Piece → Type 0 = λ y. IsOfStatement h.tree h.lowered spells.written (tokens_of source) pc y ⊎ IsOfReturn h.tree h.lowered spells.written (tokens_of source) pc y in
    subst P same found.2
