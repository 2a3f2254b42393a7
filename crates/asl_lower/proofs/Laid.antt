-- The lowering of a program is the computed one, and the computed one is a lowering.
use Rattle.std.proofs.Common.{◌≡◌, ℕ, suc, List, [], ◌∷◌, length, refl, sym, ◌∙◌, arith}
use Rattle.asl_code.specs.declared.instr.Instr.TheVariants as instr
use Rattle.asl_syntax.specs.Tree.{Value, IntegerValue, NullValue, LocalValue, BinaryValue, GlobalValue, FieldValue, LoadValue, NewValue, CallValue, Statement, AssignStatement, StoreStatement, OutStatement, IfStatement, WhileStatement, AtomicStatement, Block, NoMore, Then, Function, Item, functions_of}
use Rattle.asl_lower.specs.Names.{Scope, register, scope_of}
use Rattle.asl_lower.specs.Place.{Place, origin, next, entered, past_moves, past_stmt, past_block, past_function}
use Rattle.asl_lower.specs.Lowered.{Lowered, AreMoved, IsLoweredValue, IsLoweredStmt, IsLoweredBlock, IsLoweredElse, IsLoweredFunction, AreLoweredFunctions, IsLowering}
use Rattle.asl_lower.specs.Layout.{moves, value_code, stmt_code, block_code, else_code, stmt_sections, block_sections, else_sections, function_code, functions_code, functions_sections, functions_table, lowering_of}
use Rattle.asl_lower.proofs.Slices.{StandAt, joins, splits, stands_whole, whole_same}
use Rattle.asl_lower.proofs.LaidLengths.{moves_length, stmt_length, block_length, stmt_section_count, block_section_count, function_length, functions_length, functions_section_count, table_length}

-- what is lowered is the computed code, and its sections
moves_stand : (sc : Scope) (l : Lowered) (args : List (List ℕ)) (p : Place) (to : ℕ) → AreMoved sc l args p to → StandAt l.code p.pc (moves sc args to)
moves_stand sc l [] p to h = tt
moves_stand sc l (a ∷ rest) p to h = (h.0, moves_stand sc l rest (next p) (suc to) h.1)

value_stands : (sc : Scope) (l : Lowered) (to : ℕ) (v : Value) (p : Place) → IsLoweredValue sc l to v p → StandAt l.code p.pc (value_code sc to p.site v)
value_stands sc l to (IntegerValue z) p h = (h, tt)
value_stands sc l to NullValue p h = (h, tt)
value_stands sc l to (LocalValue y) p h = (h, tt)
value_stands sc l to (BinaryValue y o z) p h = (h, tt)
value_stands sc l to (GlobalValue g) p h = (h, tt)
value_stands sc l to (FieldValue y n) p h = (h, tt)
value_stands sc l to (LoadValue y) p h = (h, tt)
value_stands sc l to (NewValue n) p h = (h, tt)
value_stands sc l to (CallValue f args) p h =
    joins l.code p.pc (past_moves args p).pc _ _ (moves_length sc args p (length sc.locals)) (moves_stand sc l args p (length sc.locals) h.0) (h.1, tt)

mutual
  stmt_stands : (sc : Scope) (l : Lowered) (s : Statement) (p : Place) → IsLoweredStmt sc l s p → StandAt l.code p.pc (stmt_code sc s p)
  stmt_stands sc l (AssignStatement x v) p h = value_stands sc l (register sc x) v p h
  stmt_stands sc l (StoreStatement x y) p h = (h, tt)
  stmt_stands sc l (OutStatement x) p h = (h, tt)
  stmt_stands sc l (IfStatement x a e) p h =
      (h.0, joins l.code (suc p.pc) _ _ _ (block_length sc a (next p)) (block_stands sc l a (next p) h.1) (else_stands sc l e (past_block a (next p)) h.2))
  stmt_stands sc l (WhileStatement x a) p h =
      (h.0, joins l.code (suc p.pc) _ _ _ (block_length sc a (next p)) (block_stands sc l a (next p) h.1) (h.2, tt))
  stmt_stands sc l (AtomicStatement a) p h =
      (h.0, joins l.code (suc p.pc) _ _ _ (block_length sc a (entered p)) (block_stands sc l a (entered p) h.1) (h.2, tt))

  block_stands : (sc : Scope) (l : Lowered) (b : Block) (p : Place) → IsLoweredBlock sc l b p → StandAt l.code p.pc (block_code sc b p)
  block_stands sc l NoMore p h = tt
  block_stands sc l (Then s b) p h =
      joins l.code p.pc _ _ _ (stmt_length sc s p) (stmt_stands sc l s p h.0) (block_stands sc l b (past_stmt s p) h.1)

  else_stands : (sc : Scope) (l : Lowered) (e : Block) (p : Place) → IsLoweredElse sc l e p → StandAt l.code p.pc (else_code sc e p)
  else_stands sc l NoMore p h = tt
  else_stands sc l (Then s b) p h =
      (h.0, joins l.code (suc p.pc) _ _ _ (stmt_length sc s (next p)) (stmt_stands sc l s (next p) h.1) (block_stands sc l b (past_stmt s (next p)) h.2))

mutual
  stmt_listed : (sc : Scope) (l : Lowered) (s : Statement) (p : Place) → IsLoweredStmt sc l s p → StandAt l.sections p.section (stmt_sections sc s p)
  stmt_listed sc l (AssignStatement x v) p h = tt
  stmt_listed sc l (StoreStatement x y) p h = tt
  stmt_listed sc l (OutStatement x) p h = tt
  stmt_listed sc l (IfStatement x a e) p h =
      joins l.sections p.section _ _ _ (block_section_count sc a (next p)) (block_listed sc l a (next p) h.1) (else_listed sc l e (past_block a (next p)) h.2)
  stmt_listed sc l (WhileStatement x a) p h = block_listed sc l a (next p) h.1
  stmt_listed sc l (AtomicStatement a) p h = (h.3, block_listed sc l a (entered p) h.1)

  block_listed : (sc : Scope) (l : Lowered) (b : Block) (p : Place) → IsLoweredBlock sc l b p → StandAt l.sections p.section (block_sections sc b p)
  block_listed sc l NoMore p h = tt
  block_listed sc l (Then s b) p h =
      joins l.sections p.section _ _ _ (stmt_section_count sc s p) (stmt_listed sc l s p h.0) (block_listed sc l b (past_stmt s p) h.1)

  else_listed : (sc : Scope) (l : Lowered) (e : Block) (p : Place) → IsLoweredElse sc l e p → StandAt l.sections p.section (else_sections sc e p)
  else_listed sc l NoMore p h = tt
  else_listed sc l (Then s b) p h =
      joins l.sections p.section _ _ _ (stmt_section_count sc s (next p)) (stmt_listed sc l s (next p) h.1) (block_listed sc l b (past_stmt s (next p)) h.2)

function_stands : (is : List Item) (l : Lowered) (n : ℕ) (f : Function) (p : Place) → IsLoweredFunction is l n f p → StandAt l.code p.pc (function_code is n f p)
function_stands is l n f p h =
    joins l.code p.pc _ _ _ (block_length (scope_of is n f) f.body p) (block_stands (scope_of is n f) l f.body p h.body) (h.returns, tt)

functions_stand : (is : List Item) (l : Lowered) (n : ℕ) (fs : List Function) (p : Place) → AreLoweredFunctions is l n fs p → StandAt l.code p.pc (functions_code is n fs p)
functions_stand is l n [] p h = tt
functions_stand is l n (f ∷ fs) p h =
    joins l.code p.pc _ _ _ (function_length is n f p) (function_stands is l n f p h.0) (functions_stand is l (suc n) fs (past_function f p) h.1)

functions_listed : (is : List Item) (l : Lowered) (n : ℕ) (fs : List Function) (p : Place) → AreLoweredFunctions is l n fs p → StandAt l.sections p.section (functions_sections is n fs p)
functions_listed is l n [] p h = tt
functions_listed is l n (f ∷ fs) p h =
    joins l.sections p.section _ _ _ (block_section_count (scope_of is n f) f.body p) (block_listed (scope_of is n f) l f.body p h.0.body) (functions_listed is l (suc n) fs (past_function f p) h.1)

functions_tabled : (is : List Item) (l : Lowered) (n : ℕ) (fs : List Function) (p : Place) → AreLoweredFunctions is l n fs p → StandAt l.functions n (functions_table fs p)
functions_tabled is l n [] p h = tt
functions_tabled is l n (f ∷ fs) p h =
    (h.0.in_table, functions_tabled is l (suc n) fs (past_function f p) h.1)

-- a lowering's lists are the computed ones
pub code_is : (is : List Item) (l : Lowered) → IsLowering is l → l.code ≡ functions_code is 0 (functions_of is) origin
code_is is l h =
    whole_same l.code _ (functions_stand is l 0 (functions_of is) origin h.bodies) (omega (arith, h.code, functions_length is 0 (functions_of is) origin))

pub sections_are : (is : List Item) (l : Lowered) → IsLowering is l → l.sections ≡ functions_sections is 0 (functions_of is) origin
sections_are is l h =
    whole_same l.sections _ (functions_listed is l 0 (functions_of is) origin h.bodies) (omega (arith, h.sections, functions_section_count is 0 (functions_of is) origin))

pub table_is : (is : List Item) (l : Lowered) → IsLowering is l → l.functions ≡ functions_table (functions_of is) origin
table_is is l h =
    whole_same l.functions _ (functions_tabled is l 0 (functions_of is) origin h.bodies) (h.functions ∙ sym (table_length (functions_of is) origin))

-- what stands as the computed code is lowered
moves_lowered : (sc : Scope) (l : Lowered) (args : List (List ℕ)) (p : Place) (to : ℕ) → StandAt l.code p.pc (moves sc args to) → AreMoved sc l args p to
moves_lowered sc l [] p to h = tt
moves_lowered sc l (a ∷ rest) p to h = (h.0, moves_lowered sc l rest (next p) (suc to) h.1)

value_lowered : (sc : Scope) (l : Lowered) (to : ℕ) (v : Value) (p : Place) → StandAt l.code p.pc (value_code sc to p.site v) → IsLoweredValue sc l to v p
value_lowered sc l to (IntegerValue z) p h = h.0
value_lowered sc l to NullValue p h = h.0
value_lowered sc l to (LocalValue y) p h = h.0
value_lowered sc l to (BinaryValue y o z) p h = h.0
value_lowered sc l to (GlobalValue g) p h = h.0
value_lowered sc l to (FieldValue y n) p h = h.0
value_lowered sc l to (LoadValue y) p h = h.0
value_lowered sc l to (NewValue n) p h = h.0
value_lowered sc l to (CallValue f args) p h =
    let q = splits l.code p.pc (past_moves args p).pc _ _ (moves_length sc args p (length sc.locals)) h in
    (moves_lowered sc l args p (length sc.locals) q.0, q.1.0)

mutual
  stmt_lowered : (sc : Scope) (l : Lowered) (s : Statement) (p : Place) → StandAt l.code p.pc (stmt_code sc s p) → StandAt l.sections p.section (stmt_sections sc s p) → IsLoweredStmt sc l s p
  stmt_lowered sc l (AssignStatement x v) p h g = value_lowered sc l (register sc x) v p h
  stmt_lowered sc l (StoreStatement x y) p h g = h.0
  stmt_lowered sc l (OutStatement x) p h g = h.0
  stmt_lowered sc l (IfStatement x a e) p h g =
      let mid : Place = past_block a (next p) in
      let q = splits l.code (suc p.pc) mid.pc (block_code sc a (next p)) (else_code sc e mid) (block_length sc a (next p)) h.1 in
      let r = splits l.sections p.section mid.section (block_sections sc a (next p)) (else_sections sc e mid) (block_section_count sc a (next p)) g in
      (h.0, block_lowered sc l a (next p) q.0 r.0, else_lowered sc l e mid q.1 r.1)
  stmt_lowered sc l (WhileStatement x a) p h g =
      let mid : Place = past_block a (next p) in
      let q = splits l.code (suc p.pc) mid.pc (block_code sc a (next p)) (instr.Jump p.pc ∷ []) (block_length sc a (next p)) h.1 in
      (h.0, block_lowered sc l a (next p) q.0 g, q.1.0)
  stmt_lowered sc l (AtomicStatement a) p h g =
      let mid : Place = past_block a (entered p) in
      let q = splits l.code (suc p.pc) mid.pc (block_code sc a (entered p)) (instr.Release ∷ []) (block_length sc a (entered p)) h.1 in
      (h.0, block_lowered sc l a (entered p) q.0 g.1, q.1.0, g.0)

  block_lowered : (sc : Scope) (l : Lowered) (b : Block) (p : Place) → StandAt l.code p.pc (block_code sc b p) → StandAt l.sections p.section (block_sections sc b p) → IsLoweredBlock sc l b p
  block_lowered sc l NoMore p h g = tt
  block_lowered sc l (Then s b) p h g =
      let mid : Place = past_stmt s p in
      let q = splits l.code p.pc mid.pc (stmt_code sc s p) (block_code sc b mid) (stmt_length sc s p) h in
      let r = splits l.sections p.section mid.section (stmt_sections sc s p) (block_sections sc b mid) (stmt_section_count sc s p) g in
      (stmt_lowered sc l s p q.0 r.0, block_lowered sc l b mid q.1 r.1)

  else_lowered : (sc : Scope) (l : Lowered) (e : Block) (p : Place) → StandAt l.code p.pc (else_code sc e p) → StandAt l.sections p.section (else_sections sc e p) → IsLoweredElse sc l e p
  else_lowered sc l NoMore p h g = tt
  else_lowered sc l (Then s b) p h g =
      let mid : Place = past_stmt s (next p) in
      let q = splits l.code (suc p.pc) mid.pc (stmt_code sc s (next p)) (block_code sc b mid) (stmt_length sc s (next p)) h.1 in
      let r = splits l.sections p.section mid.section (stmt_sections sc s (next p)) (block_sections sc b mid) (stmt_section_count sc s (next p)) g in
      (h.0, stmt_lowered sc l s (next p) q.0 r.0, block_lowered sc l b mid q.1 r.1)

functions_lowered : (is : List Item) (l : Lowered) (n : ℕ) (fs : List Function) (p : Place) → StandAt l.code p.pc (functions_code is n fs p) → StandAt l.sections p.section (functions_sections is n fs p) → StandAt l.functions n (functions_table fs p) → AreLoweredFunctions is l n fs p
functions_lowered is l n [] p h g t = tt
functions_lowered is l n (f ∷ fs) p h g t =
    let sc : Scope = scope_of is n f in
    let end : Place = past_function f p in
    let q = splits l.code p.pc end.pc (function_code is n f p) (functions_code is (suc n) fs end) (function_length is n f p) h in
    let b = splits l.code p.pc (past_block f.body p).pc (block_code sc f.body p) (instr.Return (register sc f.returned) ∷ []) (block_length sc f.body p) q.0 in
    let r = splits l.sections p.section end.section (block_sections sc f.body p) (functions_sections is (suc n) fs end) (block_section_count sc f.body p) g in
    (record { in_table = t.0; body = block_lowered sc l f.body p b.0 r.0; returns = b.1.0 }, functions_lowered is l (suc n) fs end q.1 r.1 t.1)

-- it is a lowering
pub lowering_of_is_lowering : (is : List Item) → IsLowering is (lowering_of is)
lowering_of_is_lowering is =
    record {
      globals = refl;
      main = refl;
      functions = table_length (functions_of is) origin;
      bodies = functions_lowered is (lowering_of is) 0 (functions_of is) origin (stands_whole _) (stands_whole _) (stands_whole _);
      code = omega (arith, functions_length is 0 (functions_of is) origin);
      sites = refl;
      sections = omega (arith, functions_section_count is 0 (functions_of is) origin);
    }

-- and each lowering is it
pub lowering_is_computed : (is : List Item) (l : Lowered) → IsLowering is l → l ≡ lowering_of is
lowering_is_computed is l h = same_parts l (lowering_of is) h.globals (table_is is l h) h.main (code_is is l h) h.sites (sections_are is l h)
  where
    same_parts : (l m : Lowered) → l.globals ≡ m.globals → l.functions ≡ m.functions → l.main ≡ m.main → l.code ≡ m.code → l.sites ≡ m.sites → l.sections ≡ m.sections → l ≡ m
    same_parts l m a b c d e f = λ i. record { globals = a i; functions = b i; main = c i; code = d i; sites = e i; sections = f i }

pub one_lowering : (is : List Item) (l m : Lowered) → IsLowering is l → IsLowering is m → l ≡ m
one_lowering is l m h g = lowering_is_computed is l h ∙ sym (lowering_is_computed is m g)
