-- Each section number between two places has its section there.
use Rattle.std.proofs.Common.{◌≡◌, ℕ, ◌<◌, ◌≤◌, inl, inr, List, [], ◌∷◌, refl, subst, arith}
use Rattle.std.proofs.lemmas.Bool.{cases_lt}
use Rattle.asl_syntax.specs.Tree.{Value, IntegerValue, NullValue, LocalValue, BinaryValue, GlobalValue, FieldValue, LoadValue, NewValue, CallValue, Statement, AssignStatement, StoreStatement, OutStatement, IfStatement, WhileStatement, AtomicStatement, Block, NoMore, Then}
use Rattle.asl_lower.specs.Names.{Scope}
use Rattle.asl_lower.specs.Place.{Place, next, entered, past_moves, past_value, past_stmt, past_block, past_else}
use Rattle.asl_lower.specs.Lowered.{Lowered, IsLoweredStmt, IsLoweredBlock, IsLoweredElse}
use Rattle.asl_lower.proofs.Grows.{itself, joined, by_next, by_entered, by_stmt, by_block, by_else}
use Rattle.asl_lower.proofs.Counts.{Counted, counted_next, counted_entered, stmt_counted, block_counted}
use Rattle.asl_lower.proofs.Stands.{Sectioned, widened_section, made_section}

moves_sections : (args : List (List ℕ)) (p : Place) → (past_moves args p).section ≡ p.section
moves_sections [] p = refl
moves_sections (a ∷ rest) p = moves_sections rest (next p)

-- a value makes no section
pub value_sections : (v : Value) (p : Place) → (past_value v p).section ≡ p.section
value_sections (IntegerValue z) p = refl
value_sections NullValue p = refl
value_sections (LocalValue y) p = refl
value_sections (BinaryValue y o z) p = refl
value_sections (GlobalValue g) p = refl
value_sections (FieldValue y n) p = refl
value_sections (LoadValue y) p = refl
value_sections (NewValue n) p = refl
value_sections (CallValue f args) p = moves_sections args p

mutual
  pub stmt_sectioned : (sc : Scope) (l : Lowered) (s : Statement) (p : Place) → IsLoweredStmt sc l s p → Counted l p → (n : ℕ) → p.section ≤ n → n < (past_stmt s p).section → Sectioned sc l p (past_stmt s p) n
  stmt_sectioned sc l (AssignStatement x v) p h k n low high = absurd (omega (arith, value_sections v p))
  stmt_sectioned sc l (StoreStatement x y) p h k n low high = absurd (omega arith)
  stmt_sectioned sc l (OutStatement x) p h k n low high = absurd (omega arith)
  stmt_sectioned sc l (IfStatement x a e) p h k n low high =
      let mid : Place = past_block a (next p) in
      let ahead : Counted l (next p) = counted_next l p _ h.0 refl refl k in
      elim (cases_lt n mid.section) [
        | inl inside ↦ widened_section sc l (next p) mid p _ n (by_next p) (by_else e mid) (block_sectioned sc l a (next p) h.1 ahead n low inside)
        | inr past ↦ widened_section sc l mid (past_else e mid) p _ n (joined (by_next p) (by_block a (next p))) (itself _) (else_sectioned sc l e mid h.2 (block_counted sc l a (next p) h.1 ahead) n past high)
      ]
  stmt_sectioned sc l (WhileStatement x a) p h k n low high =
      let mid : Place = past_block a (next p) in
      widened_section sc l (next p) mid p _ n (by_next p) (by_next mid) (block_sectioned sc l a (next p) h.1 (counted_next l p _ h.0 refl refl k) n low high)
  stmt_sectioned sc l (AtomicStatement a) p h k n low high =
      let mid : Place = past_block a (entered p) in
      elim (cases_lt p.section n) [
        | inl more ↦ widened_section sc l (entered p) mid p _ n (by_entered p) (by_next mid) (block_sectioned sc l a (entered p) h.1 (counted_entered l p _ h.0 refl refl k) n more high)
        | inr less ↦ (let e : p.section ≡ n = omega arith in
            let P : ℕ → Type 0 = λ m. Sectioned sc l p (next mid) m in
            subst P e (made_section sc l a p h k))
      ]

  pub block_sectioned : (sc : Scope) (l : Lowered) (b : Block) (p : Place) → IsLoweredBlock sc l b p → Counted l p → (n : ℕ) → p.section ≤ n → n < (past_block b p).section → Sectioned sc l p (past_block b p) n
  block_sectioned sc l NoMore p h k n low high = absurd (omega arith)
  block_sectioned sc l (Then s b) p h k n low high =
      let mid : Place = past_stmt s p in
      elim (cases_lt n mid.section) [
        | inl inside ↦ widened_section sc l p mid p _ n (itself p) (by_block b mid) (stmt_sectioned sc l s p h.0 k n low inside)
        | inr past ↦ widened_section sc l mid _ p _ n (by_stmt s p) (itself _) (block_sectioned sc l b mid h.1 (stmt_counted sc l s p h.0 k) n past high)
      ]

  pub else_sectioned : (sc : Scope) (l : Lowered) (e : Block) (p : Place) → IsLoweredElse sc l e p → Counted l p → (n : ℕ) → p.section ≤ n → n < (past_else e p).section → Sectioned sc l p (past_else e p) n
  else_sectioned sc l NoMore p h k n low high = absurd (omega arith)
  else_sectioned sc l (Then s b) p h k n low high =
      let mid : Place = past_stmt s (next p) in
      let ahead : Counted l (next p) = counted_next l p _ h.0 refl refl k in
      elim (cases_lt n mid.section) [
        | inl inside ↦ widened_section sc l (next p) mid p _ n (by_next p) (by_block b mid) (stmt_sectioned sc l s (next p) h.1 ahead n low inside)
        | inr past ↦ widened_section sc l mid _ p _ n (joined (by_next p) (by_stmt s (next p))) (itself _) (block_sectioned sc l b mid h.2 (stmt_counted sc l s (next p) h.1 ahead) n past high)
      ]
