-- The accesses and the calls that are found in the tree are those of the code outside all sections.
use Rattle.std.proofs.Common.{◌≡◌, ◌≢◌, ℕ, suc, ◌+◌, ◌<◌, ◌≤◌, IsTrue, List, [], ◌∷◌, ◌++◌, length, Option, Some, None, slice_get, refl, ◌∙◌, subst, arith}
use Rattle.std.proofs.lemmas.Bool.{false≢true}
use Rattle.std.proofs.lemmas.Option.{slice_get_within}
use Rattle.std.proofs.lemmas.List.{append-nil, nil_from_length}
use Rattle.asl_code.specs.declared.instr.Instr.TheVariants as instr
use Rattle.asl_grammar.specs.declared.control.Operator.{Operator}
use Rattle.asl_grammar.specs.declared.control.Operator.TheVariants.{Add, Subtract, IsLess, IsEqual}
use Rattle.asl_syntax.specs.Tree.{Value, IntegerValue, NullValue, LocalValue, BinaryValue, GlobalValue, FieldValue, LoadValue, NewValue, CallValue, Statement, AssignStatement, StoreStatement, OutStatement, IfStatement, WhileStatement, AtomicStatement, Block, NoMore, Then}
use Rattle.asl_lower.specs.Names.{Scope, register, number_of}
use Rattle.asl_lower.specs.Place.{Place, next, entered, past_moves, past_value, past_stmt, past_block, past_else}
use Rattle.asl_lower.specs.Lowered.{Lowered, operator_instr, first_argument, section_of, AreMoved, IsLoweredValue, IsLoweredStmt, IsLoweredBlock, IsLoweredElse}
use Rattle.asl_lower.specs.OpenSections.{open_at, is_among, InSection}
use Rattle.asl_lower.specs.Facts.{HasLayout}
use Rattle.asl_lower.specs.Size.{stmt_size, block_size}
use Rattle.asl_lower.specs.Outside.{or_else, value_access, stmt_access, block_access, else_access, value_callees, stmt_callees, block_callees}
use Rattle.asl_lower.proofs.Balance.{opened, opened_next, moves_balance, stmt_balance, block_balance}
use Rattle.asl_lower.proofs.Sized.{stmt_sized, block_sized}
use Rattle.asl_lower.proofs.Grows.{Precedes, by_moves, by_stmt, by_block, by_else}
use Rattle.asl_lower.proofs.JudgedCode.{Judged, judged_none, judged_join, is_other, judged_other, judged_access, judged_call}

-- a section has nothing outside
section_inside : (l : Lowered) → HasLayout l → (sc : Scope) (a : Block) (p : Place) → IsLoweredStmt sc l (AtomicStatement a) p → (n : ℕ) → suc p.pc ≤ n → n < (past_stmt (AtomicStatement a) p).pc → open_at l.code n ≢ []
section_inside l lay sc a p h n low high none =
    let s = section_of sc a p in
    let in_section : InSection l p.section n = (s, h.3, record { behind = omega arith; within = omega arith }) in
    let here : slice_get l.code (past_block a (entered p)).pc ≡ Some instr.Release = h.2 in
    let bound = slice_get_within l.code (past_block a (entered p)).pc instr.Release here in
    let t : IsTrue (is_among (open_at l.code n) p.section) = (lay.nested.opened n p.section (omega (arith, bound))).1 in_section in
    let P : List ℕ → Type 0 = λ xs. IsTrue (is_among xs p.section) in
    false≢true (subst P none t)

judged_section : (l : Lowered) → HasLayout l → (sc : Scope) (a : Block) (p : Place) → IsLoweredStmt sc l (AtomicStatement a) p → opened l p ≡ [] → Judged l p.pc (past_stmt (AtomicStatement a) p).pc None []
judged_section l lay sc a p h none =
    let end : ℕ = (past_stmt (AtomicStatement a) p).pc in
    let grows : Precedes p (past_stmt (AtomicStatement a) p) = by_stmt (AtomicStatement a) p in
    let rest : Judged l (suc p.pc) end None [] = record {
      access_is = λ n low high x. section_inside l lay sc a p h n low high x.outside;
      calls = λ g k. absurd (section_inside l lay sc a p h k.pc k.low k.high (nil_from_length (open_at l.code k.pc) k.call.depth));
      called = λ g t. absurd (false≢true t);
    } in
    let more : Precedes (entered p) (past_block a (entered p)) = by_block a (entered p) in
    judged_join l p.pc (suc p.pc) end None None [] [] (omega arith) (omega (arith, more.pc)) (judged_other l p.pc (instr.Acquire p.section) h.0 refl) rest

-- values
operator_other : (o : Operator) (x y z : ℕ) → IsTrue (is_other (operator_instr o x y z))
operator_other Add x y z = refl
operator_other Subtract x y z = refl
operator_other IsLess x y z = refl
operator_other IsEqual x y z = refl

judged_moves : (sc : Scope) (l : Lowered) (args : List (List ℕ)) (p : Place) (to : ℕ) → AreMoved sc l args p to → Judged l p.pc (past_moves args p).pc None []
judged_moves sc l [] p to h = judged_none l p.pc
judged_moves sc l (a ∷ rest) p to h =
    let g : Precedes (next p) (past_moves rest (next p)) = by_moves rest (next p) in
    judged_join l p.pc (suc p.pc) (past_moves rest (next p)).pc None None [] [] (omega arith) g.pc (judged_other l p.pc (instr.Move to (register sc a)) h.0 refl) (judged_moves sc l rest (next p) (suc to) h.1)

judged_value : (sc : Scope) (l : Lowered) (to : ℕ) (v : Value) (p : Place) → IsLoweredValue sc l to v p → opened l p ≡ [] → Judged l p.pc (past_value v p).pc (value_access v p.pc) (value_callees sc.functions v)
judged_value sc l to (IntegerValue z) p h none = judged_other l p.pc _ h refl
judged_value sc l to NullValue p h none = judged_other l p.pc _ h refl
judged_value sc l to (LocalValue y) p h none = judged_other l p.pc _ h refl
judged_value sc l to (BinaryValue y o z) p h none = judged_other l p.pc _ h (operator_other o to (register sc y) (register sc z))
judged_value sc l to (GlobalValue g) p h none = judged_other l p.pc _ h refl
judged_value sc l to (FieldValue y n) p h none = judged_other l p.pc _ h refl
judged_value sc l to (LoadValue y) p h none = judged_access l p.pc _ h refl none
judged_value sc l to (NewValue n) p h none = judged_other l p.pc _ h refl
judged_value sc l to (CallValue f args) p h none =
    let q : Place = past_moves args p in
    let g : Precedes p q = by_moves args p in
    judged_join l p.pc q.pc (suc q.pc) None None [] (number_of sc.functions f ∷ []) g.pc (omega arith) (judged_moves sc l args p (length sc.locals) h.0)
    (judged_call l q.pc to (first_argument sc args) (number_of sc.functions f) h.1 (moves_balance sc l args p (length sc.locals) h.0 ∙ none))

-- statements and blocks
judged_end : (l : Lowered) (a b : ℕ) (p : Option ℕ) (xs : List ℕ) → a ≤ b → Judged l a b p xs → Judged l b (suc b) None [] → Judged l a (suc b) p xs
judged_end l a b p xs low x y =
    let j = judged_join l a b (suc b) p None xs [] low (omega arith) x y in
    let P : List ℕ → Type 0 = λ zs. Judged l a (suc b) p zs in
    let Q : Option ℕ → Type 0 = λ o. Judged l a (suc b) o (xs ++ []) in
    subst P (append-nil xs) (subst Q (no_other p) j)
  where
    no_other : (o : Option ℕ) → or_else o None ≡ o
    no_other None = refl
    no_other (Some n) = refl

mutual
  pub judged_stmt : (sc : Scope) (l : Lowered) → HasLayout l → (s : Statement) (p : Place) → IsLoweredStmt sc l s p → opened l p ≡ [] → Judged l p.pc (past_stmt s p).pc (stmt_access s p.pc) (stmt_callees sc.functions s)
  judged_stmt sc l lay (AssignStatement x v) p h none = judged_value sc l (register sc x) v p h none
  judged_stmt sc l lay (StoreStatement x y) p h none = judged_access l p.pc (instr.Store (register sc x) (register sc y)) h refl none
  judged_stmt sc l lay (OutStatement x) p h none = judged_other l p.pc (instr.Output (register sc x)) h refl
  judged_stmt sc l lay (IfStatement x a e) p h none =
      let q : Place = past_block a (next p) in
      let here : opened l (next p) ≡ [] = opened_next l p _ h.0 ∙ none in
      let there : opened l q ≡ [] = block_balance sc l a (next p) h.1 ∙ here in
      let g : Precedes (next p) q = by_block a (next p) in
      let k : Precedes q (past_else e q) = by_else e q in
      let size : q.pc ≡ suc p.pc + block_size a = block_sized a (next p) in
      let P : ℕ → Type 0 = λ n. Judged l q.pc (past_else e q).pc (else_access e n) (block_callees sc.functions e) in
      let test = judged_other l p.pc _ h.0 refl in
      let first = judged_block sc l lay a (next p) h.1 here in
      let second = subst P size (judged_else sc l lay e q h.2 there) in
      let both = judged_join l (suc p.pc) q.pc (past_else e q).pc (block_access a (suc p.pc)) (else_access e (suc p.pc + block_size a)) (block_callees sc.functions a) (block_callees sc.functions e) g.pc k.pc first second in
      judged_join l p.pc (suc p.pc) (past_else e q).pc None (or_else (block_access a (suc p.pc)) (else_access e (suc p.pc + block_size a))) [] (block_callees sc.functions a ++ block_callees sc.functions e) (omega arith) (omega (arith, g.pc, k.pc)) test both
  judged_stmt sc l lay (WhileStatement x a) p h none =
      let q : Place = past_block a (next p) in
      let here : opened l (next p) ≡ [] = opened_next l p _ h.0 ∙ none in
      let g : Precedes (next p) q = by_block a (next p) in
      let test = judged_other l p.pc _ h.0 refl in
      let body = judged_block sc l lay a (next p) h.1 here in
      let back = judged_other l q.pc _ h.2 refl in
      let head = judged_join l p.pc (suc p.pc) q.pc None (block_access a (suc p.pc)) [] (block_callees sc.functions a) (omega arith) g.pc test body in
      judged_end l p.pc q.pc (block_access a (suc p.pc)) (block_callees sc.functions a) (omega (arith, g.pc)) head back
  judged_stmt sc l lay (AtomicStatement a) p h none = judged_section l lay sc a p h none

  pub judged_block : (sc : Scope) (l : Lowered) → HasLayout l → (b : Block) (p : Place) → IsLoweredBlock sc l b p → opened l p ≡ [] → Judged l p.pc (past_block b p).pc (block_access b p.pc) (block_callees sc.functions b)
  judged_block sc l lay NoMore p h none = judged_none l p.pc
  judged_block sc l lay (Then s b) p h none =
      let q : Place = past_stmt s p in
      let there : opened l q ≡ [] = stmt_balance sc l s p h.0 ∙ none in
      let g : Precedes p q = by_stmt s p in
      let k : Precedes q (past_block b q) = by_block b q in
      let size : q.pc ≡ p.pc + stmt_size s = stmt_sized s p in
      let P : ℕ → Type 0 = λ n. Judged l q.pc (past_block b q).pc (block_access b n) (block_callees sc.functions b) in
      judged_join l p.pc q.pc (past_block b q).pc (stmt_access s p.pc) (block_access b (p.pc + stmt_size s)) (stmt_callees sc.functions s) (block_callees sc.functions b) g.pc k.pc
      (judged_stmt sc l lay s p h.0 none) (subst P size (judged_block sc l lay b q h.1 there))

  pub judged_else : (sc : Scope) (l : Lowered) → HasLayout l → (e : Block) (p : Place) → IsLoweredElse sc l e p → opened l p ≡ [] → Judged l p.pc (past_else e p).pc (else_access e p.pc) (block_callees sc.functions e)
  judged_else sc l lay NoMore p h none = judged_none l p.pc
  judged_else sc l lay (Then s b) p h none =
      let q : Place = past_stmt s (next p) in
      let here : opened l (next p) ≡ [] = opened_next l p _ h.0 ∙ none in
      let there : opened l q ≡ [] = stmt_balance sc l s (next p) h.1 ∙ here in
      let g : Precedes (next p) q = by_stmt s (next p) in
      let k : Precedes q (past_block b q) = by_block b q in
      let size : q.pc ≡ suc p.pc + stmt_size s = stmt_sized s (next p) in
      let P : ℕ → Type 0 = λ n. Judged l q.pc (past_block b q).pc (block_access b n) (block_callees sc.functions b) in
      let jump = judged_other l p.pc _ h.0 refl in
      let both = judged_join l (suc p.pc) q.pc (past_block b q).pc (stmt_access s (suc p.pc)) (block_access b (suc p.pc + stmt_size s)) (stmt_callees sc.functions s) (block_callees sc.functions b) g.pc k.pc
      (judged_stmt sc l lay s (next p) h.1 here) (subst P size (judged_block sc l lay b q h.2 there)) in
      judged_join l p.pc (suc p.pc) (past_block b q).pc None (or_else (stmt_access s (suc p.pc)) (block_access b (suc p.pc + stmt_size s))) [] (stmt_callees sc.functions s ++ block_callees sc.functions b) (omega arith) (omega (arith, g.pc, k.pc)) jump both

-- a `ret` after it
pub judged_return : (l : Lowered) (a b from : ℕ) (p : Option ℕ) (xs : List ℕ) → a ≤ b → Judged l a b p xs → slice_get l.code b ≡ Some (instr.Return from) → Judged l a (suc b) p xs
judged_return l a b from p xs low j h = judged_end l a b p xs low j (judged_other l b (instr.Return from) h refl)
