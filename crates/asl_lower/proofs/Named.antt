-- What each instruction of a statement's code names is there, where the names of the statement are.
use Rattle.std.proofs.Common.{◌≡◌, ℕ, suc, ◌+◌, ◌<◌, ◌≤◌, inl, inr, List, [], ◌∷◌, ◌++◌, length, map, Some, slice_get, ap, ◌∙◌, arith}
use Rattle.std.proofs.lemmas.Bool.{cases_lt}
use Rattle.std.proofs.lemmas.Option.{slice_get_within}
use Rattle.asl_code.specs.declared.image.Function as entry
use Rattle.asl_code.specs.declared.instr.Instr.{Instr}
use Rattle.asl_code.specs.declared.instr.Instr.TheVariants as instr
use Rattle.asl_grammar.specs.declared.control.Operator.{Operator}
use Rattle.asl_grammar.specs.declared.control.Operator.TheVariants.{Add, Subtract, IsLess, IsEqual}
use Rattle.asl_syntax.specs.Tree.{Value, IntegerValue, NullValue, LocalValue, BinaryValue, GlobalValue, FieldValue, LoadValue, NewValue, CallValue, Statement, AssignStatement, StoreStatement, OutStatement, IfStatement, WhileStatement, AtomicStatement, Block, NoMore, Then}
use Rattle.asl_syntax.specs.Mentions.{Mention, AssignsLocal, UsesLocal, UsesGlobal, CallsFunction, value_mentions, statement_mentions, block_mentions}
use Rattle.asl_lower.specs.Names.{Scope, register, global_number, function_number, value_arguments, stmt_arguments, block_arguments}
use Rattle.asl_lower.specs.Place.{Place, next, entered, past_moves, past_value, past_stmt, past_block, past_else}
use Rattle.asl_lower.specs.Lowered.{Lowered, Has, operator_instr, first_argument, AreMoved, IsLoweredValue, IsLoweredStmt, IsLoweredBlock, IsLoweredElse}
use Rattle.asl_lower.specs.Facts.{IsNumbered, HasSections}
use Rattle.asl_lower.specs.Operands.{HasOperands}
use Rattle.asl_lower.specs.declared.section.Section.{Section}
use Rattle.asl_lower.proofs.Owner.{from_mapped}

-- what a mention names is there
abbrev pub Known : Scope → Lowered → Mention → Type 0
Known sc l (AssignsLocal x) = register sc x < length sc.locals
Known sc l (UsesLocal x) = register sc x < length sc.locals
Known sc l (UsesGlobal x) = global_number sc x < l.globals
Known sc l (CallsFunction f n) = (g : entry.Function) × (slice_get l.functions (function_number sc f) ≡ Some g) × (g.params ≡ n)
Known sc l m = Unit {0}

-- so it is of each mention
abbrev pub Each : (Mention → Type 0) → List Mention → Type 0
Each P [] = Unit {0}
Each P (m ∷ ms) = P m × Each P ms

pub each_first : (P : Mention → Type 0) (ms ns : List Mention) → Each P (ms ++ ns) → Each P ms
each_first P [] ns h = tt
each_first P (m ∷ ms) ns h = (h.0, each_first P ms ns h.1)

pub each_second : (P : Mention → Type 0) (ms ns : List Mention) → Each P (ms ++ ns) → Each P ns
each_second P [] ns h = h
each_second P (m ∷ ms) ns h = each_second P ms ns h.1

-- each `new` of a statement makes a cell
abbrev pub ValueCells : Value → Type 0
ValueCells (NewValue n) = 0 < n
ValueCells v = Unit {0}

abbrev mutual
  pub StmtCells : Statement → Type 0
  StmtCells (AssignStatement x v) = ValueCells v
  StmtCells (StoreStatement x y) = Unit {0}
  StmtCells (OutStatement x) = Unit {0}
  StmtCells (IfStatement x a b) = BlockCells a × BlockCells b
  StmtCells (WhileStatement x a) = BlockCells a
  StmtCells (AtomicStatement a) = BlockCells a

  pub BlockCells : Block → Type 0
  BlockCells NoMore = Unit {0}
  BlockCells (Then s b) = StmtCells s × BlockCells b

-- the operands of an instruction but for its site and its section
abbrev pub Named : Lowered → ℕ → Instr → Type 0
Named l r (instr.New to cells site) = (to < r) × (0 < cells)
Named l r (instr.Acquire section) = Unit {0}
Named l r i = HasOperands l r i

pub named_operands : (l : Lowered) (r pc : ℕ) (i : Instr) → IsNumbered l → HasSections l → slice_get l.code pc ≡ Some i → Named l r i → HasOperands l r i
named_operands l r pc (instr.New to cells site) n s e h =
    (h.0, (h.1, (n.known_sites pc to cells site e, tt)))
named_operands l r pc (instr.Acquire section) n s e h =
    let w = from_mapped (λ (x : Section). x.acquire) (slice_get l.sections section) pc (s.entered pc section e) in
    (slice_get_within l.sections section w.0 w.1, tt)
named_operands l r pc i n s e h = h

-- what stands at a pc, with its operands
pub record NamedAt (l : Lowered) (r pc : ℕ) : Type 0 where
  pub instruction : Instr
  pub stands : slice_get l.code pc ≡ Some instruction
  pub named : Named l r instruction

one_named : (l : Lowered) (r : ℕ) (p : Place) (pc : ℕ) → p.pc ≤ pc → pc < suc p.pc → (i : Instr) → Has l p i → Named l r i → NamedAt l r pc
one_named l r p pc low high i h n =
    let e : pc ≡ p.pc = omega arith in
    record { instruction = i; stands = ap (slice_get l.code) e ∙ h; named = n }

operator_named : (l : Lowered) (r : ℕ) (o : Operator) (x y z : ℕ) → x < r → y < r → z < r → Named l r (operator_instr o x y z)
operator_named l r Add x y z a b c = (a, (b, (c, tt)))
operator_named l r Subtract x y z a b c = (a, (b, (c, tt)))
operator_named l r IsLess x y z a b c = (a, (b, (c, tt)))
operator_named l r IsEqual x y z a b c = (a, (b, (c, tt)))

moves_named : (sc : Scope) (l : Lowered) (r : ℕ) (args : List (List ℕ)) (p : Place) (to : ℕ) → AreMoved sc l args p to → length sc.locals ≤ r → to + length args ≤ r → Each (Known sc l) (map UsesLocal args) → (pc : ℕ) → p.pc ≤ pc → pc < (past_moves args p).pc → NamedAt l r pc
moves_named sc l r [] p to h a b k pc low high = absurd (omega arith)
moves_named sc l r (x ∷ rest) p to h a b k pc low high =
    elim (cases_lt p.pc pc) [
      | inl more ↦ moves_named sc l r rest (next p) (suc to) h.1 a (omega arith) k.1 pc more high
      | inr less ↦ (let first = k.0 in one_named l r p pc low (omega arith) _ h.0 (omega arith, (omega (arith, first), tt)))
    ]

-- as many registers as the call passes arguments
call_fits : (sc : Scope) (r n : ℕ) (args : List (List ℕ)) → length sc.locals + length args ≤ r → n ≡ length args → first_argument sc args + n ≤ r
call_fits sc r n [] h e = omega arith
call_fits sc r n (x ∷ rest) h e = omega arith

value_named : (sc : Scope) (l : Lowered) (r to : ℕ) (v : Value) (p : Place) → IsLoweredValue sc l to v p → to < r → length sc.locals + value_arguments v ≤ r → Each (Known sc l) (value_mentions v) → ValueCells v → (pc : ℕ) → p.pc ≤ pc → pc < (past_value v p).pc → NamedAt l r pc
value_named sc l r to (IntegerValue z) p h t a k c pc low high = one_named l r p pc low high _ h (t, (tt, tt))
value_named sc l r to NullValue p h t a k c pc low high = one_named l r p pc low high _ h (t, tt)
value_named sc l r to (LocalValue y) p h t a k c pc low high =
    (let first = k.0 in one_named l r p pc low high _ h (t, (omega (arith, first), tt)))
value_named sc l r to (BinaryValue y o z) p h t a k c pc low high =
    (let first = k.0 in
    let second = k.1.0 in
    one_named l r p pc low high _ h (operator_named l r o to (register sc y) (register sc z) t (omega (arith, first)) (omega (arith, second))))
value_named sc l r to (GlobalValue g) p h t a k c pc low high = one_named l r p pc low high _ h (t, (k.0, tt))
value_named sc l r to (FieldValue y n) p h t a k c pc low high =
    (let first = k.0 in one_named l r p pc low high _ h (t, (omega (arith, first), (tt, tt))))
value_named sc l r to (LoadValue y) p h t a k c pc low high =
    (let first = k.0 in one_named l r p pc low high _ h (t, (omega (arith, first), tt)))
value_named sc l r to (NewValue n) p h t a k c pc low high = one_named l r p pc low high _ h (t, c)
value_named sc l r to (CallValue f args) p h t a k c pc low high =
    elim (cases_lt pc (past_moves args p).pc) [
      | inl more ↦ moves_named sc l r args p (length sc.locals) h.0 (omega arith) (omega arith) k.1 pc low more
      | inr less ↦ (let callee = k.0 in
          one_named l r (past_moves args p) pc less high _ h.1 (t, (record { function = callee.0; in_table = callee.1; arguments = call_fits sc r callee.0.params args (omega arith) callee.2 }, tt)))
    ]

mutual
  pub stmt_named : (sc : Scope) (l : Lowered) (r : ℕ) (s : Statement) (p : Place) → IsLoweredStmt sc l s p → length sc.locals + stmt_arguments s ≤ r → Each (Known sc l) (statement_mentions s) → StmtCells s → (pc : ℕ) → p.pc ≤ pc → pc < (past_stmt s p).pc → NamedAt l r pc
  stmt_named sc l r (AssignStatement x v) p h a k c pc low high =
      (let first = k.0 in value_named sc l r (register sc x) v p h (omega (arith, first)) a k.1 c pc low high)
  stmt_named sc l r (StoreStatement x y) p h a k c pc low high =
      (let first = k.0 in
      let second = k.1.0 in
      one_named l r p pc low high _ h (omega (arith, first), (omega (arith, second), tt)))
  stmt_named sc l r (OutStatement x) p h a k c pc low high =
      (let first = k.0 in one_named l r p pc low high _ h (omega (arith, first), tt))
  stmt_named sc l r (IfStatement x b e) p h a k c pc low high =
      let first = k.0 in
      let mid : Place = past_block b (next p) in
      elim (cases_lt p.pc pc) [
        | inr less ↦ one_named l r p pc low (omega arith) _ h.0 (omega (arith, first), (tt, tt))
        | inl more ↦ elim (cases_lt pc mid.pc) [
          | inl inside ↦ block_named sc l r b (next p) h.1 (omega arith) (each_first (Known sc l) (block_mentions b) (block_mentions e) k.1) c.0 pc more inside
          | inr past ↦ else_named sc l r e mid h.2 (omega arith) (each_second (Known sc l) (block_mentions b) (block_mentions e) k.1) c.1 pc past high
        ]
      ]
  stmt_named sc l r (WhileStatement x b) p h a k c pc low high =
      let first = k.0 in
      let mid : Place = past_block b (next p) in
      elim (cases_lt p.pc pc) [
        | inr less ↦ one_named l r p pc low (omega arith) _ h.0 (omega (arith, first), (tt, tt))
        | inl more ↦ elim (cases_lt pc mid.pc) [
          | inl inside ↦ block_named sc l r b (next p) h.1 a k.1 c pc more inside
          | inr past ↦ one_named l r mid pc past high _ h.2 (tt, tt)
        ]
      ]
  stmt_named sc l r (AtomicStatement b) p h a k c pc low high =
      let mid : Place = past_block b (entered p) in
      elim (cases_lt p.pc pc) [
        | inr less ↦ one_named l r p pc low (omega arith) _ h.0 tt
        | inl more ↦ elim (cases_lt pc mid.pc) [
          | inl inside ↦ block_named sc l r b (entered p) h.1 a k c pc more inside
          | inr past ↦ one_named l r mid pc past high _ h.2 tt
        ]
      ]

  pub block_named : (sc : Scope) (l : Lowered) (r : ℕ) (b : Block) (p : Place) → IsLoweredBlock sc l b p → length sc.locals + block_arguments b ≤ r → Each (Known sc l) (block_mentions b) → BlockCells b → (pc : ℕ) → p.pc ≤ pc → pc < (past_block b p).pc → NamedAt l r pc
  block_named sc l r NoMore p h a k c pc low high = absurd (omega arith)
  block_named sc l r (Then s b) p h a k c pc low high =
      let mid : Place = past_stmt s p in
      elim (cases_lt pc mid.pc) [
        | inl inside ↦ stmt_named sc l r s p h.0 (omega arith) (each_first (Known sc l) (statement_mentions s) (block_mentions b) k) c.0 pc low inside
        | inr past ↦ block_named sc l r b mid h.1 (omega arith) (each_second (Known sc l) (statement_mentions s) (block_mentions b) k) c.1 pc past high
      ]

  else_named : (sc : Scope) (l : Lowered) (r : ℕ) (e : Block) (p : Place) → IsLoweredElse sc l e p → length sc.locals + block_arguments e ≤ r → Each (Known sc l) (block_mentions e) → BlockCells e → (pc : ℕ) → p.pc ≤ pc → pc < (past_else e p).pc → NamedAt l r pc
  else_named sc l r NoMore p h a k c pc low high = absurd (omega arith)
  else_named sc l r (Then s b) p h a k c pc low high =
      let mid : Place = past_stmt s (next p) in
      elim (cases_lt p.pc pc) [
        | inr less ↦ one_named l r p pc low (omega arith) _ h.0 (tt, tt)
        | inl more ↦ elim (cases_lt pc mid.pc) [
          | inl inside ↦ stmt_named sc l r s (next p) h.1 (omega arith) (each_first (Known sc l) (statement_mentions s) (block_mentions b) k) c.0 pc more inside
          | inr past ↦ block_named sc l r b mid h.2 (omega arith) (each_second (Known sc l) (statement_mentions s) (block_mentions b) k) c.1 pc past high
        ]
      ]
