-- What stands at each pc of a statement's code, and what is known of it: where a jump goes, which section an `acq`
-- enters and a `rel` leaves, which site a `new` has.
use Rattle.std.proofs.Common.{◌≡◌, ℕ, suc, ◌<◌, ◌≤◌, inl, inr, Bool, true, false, IsTrue, List, [], ◌∷◌, Some, slice_get, refl, sym, ◌∙◌, subst, arith}
use Rattle.std.proofs.lemmas.Bool.{cases_lt}
use Rattle.asl_code.specs.declared.instr.Instr.{Instr}
use Rattle.asl_code.specs.declared.instr.Instr.TheVariants as instr
use Rattle.asl_grammar.specs.declared.control.Operator.{Operator}
use Rattle.asl_grammar.specs.declared.control.Operator.TheVariants.{Add, Subtract, IsLess, IsEqual}
use Rattle.asl_syntax.specs.Tree.{Value, IntegerValue, NullValue, LocalValue, BinaryValue, GlobalValue, FieldValue, LoadValue, NewValue, CallValue, Statement, AssignStatement, StoreStatement, OutStatement, IfStatement, WhileStatement, AtomicStatement, Block, NoMore, Then}
use Rattle.asl_lower.specs.declared.section.Section.{Section}
use Rattle.asl_lower.specs.Names.{Scope, register}
use Rattle.asl_lower.specs.Place.{Place, next, entered, past_moves, past_value, past_stmt, past_block, past_else}
use Rattle.asl_lower.specs.Lowered.{Lowered, operator_instr, else_target, section_of, AreMoved, IsLoweredValue, IsLoweredStmt, IsLoweredBlock, IsLoweredElse}
use Rattle.asl_lower.specs.OpenSections.{open_at, sites_before, sections_before}
use Rattle.asl_lower.proofs.Grows.{Precedes, itself, joined, by_next, by_entered, by_stmt, by_block, by_else}
use Rattle.asl_lower.proofs.Counts.{Counted, counted_next, counted_entered, stmt_counted, block_counted}
use Rattle.asl_lower.proofs.Balance.{opened, opened_next, stmt_balance, block_balance, else_balance}

-- an instruction that only continues to the next, in the same sections, and makes and calls nothing
abbrev pub is_plain : Instr → Bool
is_plain (instr.New to cells class) = false
is_plain (instr.Jump target) = false
is_plain (instr.JumpIfZero test target) = false
is_plain (instr.Call to first function) = false
is_plain (instr.Return from) = false
is_plain (instr.Acquire list) = false
is_plain instr.Release = false
is_plain i = true

-- the section of this number has its code between the two places
pub record Sectioned (sc : Scope) (l : Lowered) (lo hi : Place) (number : ℕ) : Type 0 where
  pub section : Section
  pub in_table : slice_get l.sections number ≡ Some section
  pub function : section.function ≡ sc.function
  pub above : lo.pc ≤ section.acquire
  pub before : section.acquire < section.release
  pub below : section.release < hi.pc
  pub first : lo.section ≤ number
  pub last : number < hi.section
  pub enters : slice_get l.code section.acquire ≡ Some (instr.Acquire number)
  pub leaves : slice_get l.code section.release ≡ Some instr.Release
  pub counted : number ≡ sections_before l.code section.acquire
  pub around : open_at l.code section.release ≡ number ∷ open_at l.code section.acquire

-- what stands at a pc of the code between two places
pub data Stands (sc : Scope) (l : Lowered) (lo hi : Place) (pc : ℕ) : Type 0 where
  Plainly : (i : Instr) → slice_get l.code pc ≡ Some i → IsTrue (is_plain i) → Stands sc l lo hi pc
  Makes : (to cells site : ℕ) → slice_get l.code pc ≡ Some (instr.New to cells site) → lo.site ≤ site → site < hi.site → site ≡ sites_before l.code pc → Stands sc l lo hi pc
  Invokes : (to first function : ℕ) → slice_get l.code pc ≡ Some (instr.Call to first function) → Stands sc l lo hi pc
  Jumps : (target : ℕ) → slice_get l.code pc ≡ Some (instr.Jump target) → lo.pc ≤ target → target ≤ hi.pc → open_at l.code target ≡ open_at l.code pc → Stands sc l lo hi pc
  Tests : (test target : ℕ) → slice_get l.code pc ≡ Some (instr.JumpIfZero test target) → lo.pc ≤ target → target ≤ hi.pc → open_at l.code target ≡ open_at l.code pc → Stands sc l lo hi pc
  Enters : (number : ℕ) → (w : Sectioned sc l lo hi number) → w.section.acquire ≡ pc → Stands sc l lo hi pc
  Leaves : (number : ℕ) → (w : Sectioned sc l lo hi number) → w.section.release ≡ pc → Stands sc l lo hi pc

abbrev pub widened_section : (sc : Scope) (l : Lowered) (lo hi from to : Place) (n : ℕ) → Precedes from lo → Precedes hi to → Sectioned sc l lo hi n → Sectioned sc l from to n
widened_section sc l lo hi from to n a b w =
    record { section = w.section; in_table = w.in_table; function = w.function; above = omega (arith, a.pc, w.above); before = w.before; below = omega (arith, b.pc, w.below); first = omega (arith, a.section, w.first); last = omega (arith, b.section, w.last); enters = w.enters; leaves = w.leaves; counted = w.counted; around = w.around }

pub widened : (sc : Scope) (l : Lowered) (lo hi from to : Place) (pc : ℕ) → Precedes from lo → Precedes hi to → Stands sc l lo hi pc → Stands sc l from to pc
widened sc l lo hi from to pc a b (Plainly i e t) = Plainly i e t
widened sc l lo hi from to pc a b (Makes r c s e f g k) =
    Makes r c s e (omega (arith, a.site)) (omega (arith, b.site)) k
widened sc l lo hi from to pc a b (Invokes r x f e) = Invokes r x f e
widened sc l lo hi from to pc a b (Jumps t e f g o) = Jumps t e (omega (arith, a.pc)) (omega (arith, b.pc)) o
widened sc l lo hi from to pc a b (Tests x t e f g o) =
    Tests x t e (omega (arith, a.pc)) (omega (arith, b.pc)) o
widened sc l lo hi from to pc a b (Enters n w e) = Enters n (widened_section sc l lo hi from to n a b w) e
widened sc l lo hi from to pc a b (Leaves n w e) = Leaves n (widened_section sc l lo hi from to n a b w) e

-- what stands at a place stands at its pc
pub moved : (sc : Scope) (l : Lowered) (lo hi : Place) (pc pc' : ℕ) → pc ≡ pc' → Stands sc l lo hi pc → Stands sc l lo hi pc'
moved sc l lo hi pc pc' e h = let P : ℕ → Type 0 = λ n. Stands sc l lo hi n in subst P e h

operator_plain : (o : Operator) (x y z : ℕ) → IsTrue (is_plain (operator_instr o x y z))
operator_plain Add x y z = refl
operator_plain Subtract x y z = refl
operator_plain IsLess x y z = refl
operator_plain IsEqual x y z = refl

moves_stand : (sc : Scope) (l : Lowered) (args : List (List ℕ)) (p : Place) (to : ℕ) → AreMoved sc l args p to → (pc : ℕ) → p.pc ≤ pc → pc < (past_moves args p).pc → Stands sc l p (past_moves args p) pc
moves_stand sc l [] p to h pc low high = absurd (omega arith)
moves_stand sc l (a ∷ rest) p to h pc low high =
    elim (cases_lt p.pc pc) [
      | inl more ↦ widened sc l (next p) (past_moves rest (next p)) p _ pc (by_next p) (itself _) (moves_stand sc l rest (next p) (suc to) h.1 pc more high)
      | inr less ↦ moved sc l p _ p.pc pc (omega arith) (Plainly _ h.0 refl)
    ]

-- the one instruction of a value
one_stands : (sc : Scope) (l : Lowered) (p : Place) (pc : ℕ) → p.pc ≤ pc → pc < suc p.pc → (hi : Place) → Stands sc l p hi p.pc → Stands sc l p hi pc
one_stands sc l p pc low high hi h = moved sc l p hi p.pc pc (omega arith) h

value_stands : (sc : Scope) (l : Lowered) (to : ℕ) (v : Value) (p : Place) → IsLoweredValue sc l to v p → Counted l p → (pc : ℕ) → p.pc ≤ pc → pc < (past_value v p).pc → Stands sc l p (past_value v p) pc
value_stands sc l to (IntegerValue z) p h k pc low high = one_stands sc l p pc low high _ (Plainly _ h refl)
value_stands sc l to NullValue p h k pc low high = one_stands sc l p pc low high _ (Plainly _ h refl)
value_stands sc l to (LocalValue y) p h k pc low high = one_stands sc l p pc low high _ (Plainly _ h refl)
value_stands sc l to (BinaryValue y o z) p h k pc low high = one_stands sc l p pc low high _ (Plainly _ h (operator_plain o to (register sc y) (register sc z)))
value_stands sc l to (GlobalValue g) p h k pc low high = one_stands sc l p pc low high _ (Plainly _ h refl)
value_stands sc l to (FieldValue y n) p h k pc low high = one_stands sc l p pc low high _ (Plainly _ h refl)
value_stands sc l to (LoadValue y) p h k pc low high = one_stands sc l p pc low high _ (Plainly _ h refl)
value_stands sc l to (NewValue n) p h k pc low high =
    one_stands sc l p pc low high _ (Makes to n p.site h (omega arith) (omega arith) (sym k.sites))
value_stands sc l to (CallValue f args) p h k pc low high =
    elim (cases_lt pc (past_moves args p).pc) [
      | inl more ↦ widened sc l p (past_moves args p) p _ pc (itself p) (by_next (past_moves args p)) (moves_stand sc l args p _ h.0 pc low more)
      | inr less ↦ moved sc l p _ (past_moves args p).pc pc (omega arith) (Invokes _ _ _ h.1)
    ]

-- the section that an `atomic` statement makes
abbrev pub made_section : (sc : Scope) (l : Lowered) (a : Block) (p : Place) → IsLoweredStmt sc l (AtomicStatement a) p → Counted l p → Sectioned sc l p (next (past_block a (entered p))) p.section
made_section sc l a p h k =
    let g : Precedes (entered p) (past_block a (entered p)) = by_block a (entered p) in
    record {
      section = section_of sc a p;
      in_table = h.3;
      function = refl;
      above = omega arith;
      before = omega (arith, g.pc);
      below = omega arith;
      first = omega arith;
      last = omega (arith, g.section);
      enters = h.0;
      leaves = h.2;
      counted = sym k.sections;
      around = block_balance sc l a (entered p) h.1 ∙ opened_next l p _ h.0;
    }

-- the target of the `jz` of an `if` lies after its block, and nothing more is open there
target_low : (e : Block) (p : Place) → p.pc ≤ else_target e p
target_low NoMore p = omega arith
target_low (Then s b) p = omega arith

target_high : (e : Block) (p : Place) → else_target e p ≤ (past_else e p).pc
target_high NoMore p = omega arith
target_high (Then s b) p = (joined (by_stmt s (next p)) (by_block b (past_stmt s (next p)))).pc

target_opened : (sc : Scope) (l : Lowered) (e : Block) (p : Place) → IsLoweredElse sc l e p → open_at l.code (else_target e p) ≡ opened l p
target_opened sc l NoMore p h = refl
target_opened sc l (Then s b) p h = opened_next l p _ h.0

mutual
  pub stmt_stands : (sc : Scope) (l : Lowered) (s : Statement) (p : Place) → IsLoweredStmt sc l s p → Counted l p → (pc : ℕ) → p.pc ≤ pc → pc < (past_stmt s p).pc → Stands sc l p (past_stmt s p) pc
  stmt_stands sc l (AssignStatement x v) p h k pc low high = value_stands sc l (register sc x) v p h k pc low high
  stmt_stands sc l (StoreStatement x y) p h k pc low high = one_stands sc l p pc low high _ (Plainly _ h refl)
  stmt_stands sc l (OutStatement x) p h k pc low high = one_stands sc l p pc low high _ (Plainly _ h refl)
  stmt_stands sc l (IfStatement x a e) p h k pc low high =
      let mid : Place = past_block a (next p) in
      let up : Precedes p mid = joined (by_next p) (by_block a (next p)) in
      elim (cases_lt p.pc pc) [
        | inr less ↦ moved sc l p _ p.pc pc (omega arith)
            (Tests _ _ h.0 (omega (arith, up.pc, target_low e mid)) (target_high e mid)
            (target_opened sc l e mid h.2 ∙ block_balance sc l a (next p) h.1 ∙ opened_next l p _ h.0))
        | inl more ↦ elim (cases_lt pc mid.pc) [
          | inl inside ↦ widened sc l (next p) mid p _ pc (by_next p) (by_else e mid) (block_stands sc l a (next p) h.1 (counted_next l p _ h.0 refl refl k) pc more inside)
          | inr past ↦ widened sc l mid (past_else e mid) p _ pc up (itself _) (else_stands sc l e mid h.2 (block_counted sc l a (next p) h.1 (counted_next l p _ h.0 refl refl k)) pc past high)
        ]
      ]
  stmt_stands sc l (WhileStatement x a) p h k pc low high =
      let mid : Place = past_block a (next p) in
      let up : Precedes (next p) mid = by_block a (next p) in
      elim (cases_lt p.pc pc) [
        | inr less ↦ moved sc l p _ p.pc pc (omega arith)
            (Tests _ _ h.0 (omega (arith, up.pc)) (omega arith) (stmt_balance sc l (WhileStatement x a) p h))
        | inl more ↦ elim (cases_lt pc mid.pc) [
          | inl inside ↦ widened sc l (next p) mid p _ pc (by_next p) (by_next mid) (block_stands sc l a (next p) h.1 (counted_next l p _ h.0 refl refl k) pc more inside)
          | inr past ↦ moved sc l p _ mid.pc pc (omega arith)
              (Jumps _ h.2 (omega arith) (omega (arith, up.pc)) (sym (block_balance sc l a (next p) h.1 ∙ opened_next l p _ h.0)))
        ]
      ]
  stmt_stands sc l (AtomicStatement a) p h k pc low high =
      let mid : Place = past_block a (entered p) in
      elim (cases_lt p.pc pc) [
        | inr less ↦ moved sc l p _ p.pc pc (omega arith) (Enters p.section (made_section sc l a p h k) refl)
        | inl more ↦ elim (cases_lt pc mid.pc) [
          | inl inside ↦ widened sc l (entered p) mid p _ pc (by_entered p) (by_next mid) (block_stands sc l a (entered p) h.1 (counted_entered l p _ h.0 refl refl k) pc more inside)
          | inr past ↦ moved sc l p _ mid.pc pc (omega arith) (Leaves p.section (made_section sc l a p h k) refl)
        ]
      ]

  pub block_stands : (sc : Scope) (l : Lowered) (b : Block) (p : Place) → IsLoweredBlock sc l b p → Counted l p → (pc : ℕ) → p.pc ≤ pc → pc < (past_block b p).pc → Stands sc l p (past_block b p) pc
  block_stands sc l NoMore p h k pc low high = absurd (omega arith)
  block_stands sc l (Then s b) p h k pc low high =
      let mid : Place = past_stmt s p in
      elim (cases_lt pc mid.pc) [
        | inl inside ↦ widened sc l p mid p _ pc (itself p) (by_block b mid) (stmt_stands sc l s p h.0 k pc low inside)
        | inr past ↦ widened sc l mid _ p _ pc (by_stmt s p) (itself _) (block_stands sc l b mid h.1 (stmt_counted sc l s p h.0 k) pc past high)
      ]

  pub else_stands : (sc : Scope) (l : Lowered) (e : Block) (p : Place) → IsLoweredElse sc l e p → Counted l p → (pc : ℕ) → p.pc ≤ pc → pc < (past_else e p).pc → Stands sc l p (past_else e p) pc
  else_stands sc l NoMore p h k pc low high = absurd (omega arith)
  else_stands sc l (Then s b) p h k pc low high =
      let mid : Place = past_stmt s (next p) in
      let up : Precedes (next p) (past_block b mid) = joined (by_stmt s (next p)) (by_block b mid) in
      elim (cases_lt p.pc pc) [
        | inr less ↦ moved sc l p _ p.pc pc (omega arith)
            (Jumps _ h.0 (omega (arith, up.pc)) (omega arith) (else_balance sc l (Then s b) p h))
        | inl more ↦ elim (cases_lt pc mid.pc) [
          | inl inside ↦ widened sc l (next p) mid p _ pc (by_next p) (by_block b mid) (stmt_stands sc l s (next p) h.1 (counted_next l p _ h.0 refl refl k) pc more inside)
          | inr past ↦ widened sc l mid _ p _ pc (joined (by_next p) (by_stmt s (next p))) (itself _) (block_stands sc l b mid h.2 (stmt_counted sc l s (next p) h.1 (counted_next l p _ h.0 refl refl k)) pc past high)
        ]
      ]
