-- A place counts the `new` and the `acq` before it.
use Rattle.std.proofs.Common.{◌≡◌, ℕ, suc, ◌+◌, Bool, true, false, cond, List, [], ◌∷◌, take, Some, slice_get, refl, ap, ◌∙◌, arith}
use Rattle.std.specs.List.{sum_by, count_by}
use Rattle.std.proofs.lemmas.List.Sums.{sum_by_more}
use Rattle.std.proofs.lemmas.Option.{slice_get_within, get_or_from_slice_get}
use Rattle.asl_code.specs.declared.instr.Instr.{Instr}
use Rattle.asl_grammar.specs.declared.control.Operator.{Operator}
use Rattle.asl_grammar.specs.declared.control.Operator.TheVariants.{Add, Subtract, IsLess, IsEqual}
use Rattle.asl_syntax.specs.Tree.{Value, IntegerValue, NullValue, LocalValue, BinaryValue, GlobalValue, FieldValue, LoadValue, NewValue, CallValue, Statement, AssignStatement, StoreStatement, OutStatement, IfStatement, WhileStatement, AtomicStatement, Block, NoMore, Then, Function, Item}
use Rattle.asl_lower.specs.Names.{Scope, register}
use Rattle.asl_lower.specs.Place.{Place, next, created, entered, past_moves, past_value, past_stmt, past_block, past_else, past_function, past_functions}
use Rattle.asl_lower.specs.Lowered.{Lowered, Has, operator_instr, AreMoved, IsLoweredValue, IsLoweredStmt, IsLoweredBlock, IsLoweredElse, IsLoweredFunction, AreLoweredFunctions}
use Rattle.asl_lower.specs.OpenSections.{is_new, is_acquire, sites_before, sections_before}

-- one element more
pub sum_more : {X : Type 0} (f : X → ℕ) (xs : List X) (i : ℕ) (x : X) → slice_get xs i ≡ Some x → sum_by f (take (suc i) xs) ≡ sum_by f (take i xs) + f x
sum_more {X} f xs i x h =
    let e : suc i ≡ i + 1 = omega arith in
    ap (λ (n : ℕ). sum_by f (take n xs)) e
    ∙ sum_by_more f xs i x (slice_get_within xs i x h)
    ∙ ap (λ (y : X). sum_by f (take i xs) + f y) (get_or_from_slice_get xs i x x h)

-- the place counts what stands before it
pub record Counted (l : Lowered) (p : Place) : Type 0 where
  pub sites : sites_before l.code p.pc ≡ p.site
  pub sections : sections_before l.code p.pc ≡ p.section

counted_more : (t : Instr → Bool) (l : Lowered) (p : Place) (i : Instr) (b : Bool) → Has l p i → t i ≡ b → count_by t (take (suc p.pc) l.code) ≡ count_by t (take p.pc l.code) + cond b 1 0
counted_more t l p i b h e =
    sum_more (λ (j : Instr). cond (t j) 1 0) l.code p.pc i h
    ∙ ap (λ (c : Bool). count_by t (take p.pc l.code) + cond c 1 0) e

pub counted_next : (l : Lowered) (p : Place) (i : Instr) → Has l p i → is_new i ≡ false → is_acquire i ≡ false → Counted l p → Counted l (next p)
counted_next l p i h e f k =
    record { sites = omega (arith, counted_more is_new l p i false h e, k.sites); sections = omega (arith, counted_more is_acquire l p i false h f, k.sections) }

pub counted_created : (l : Lowered) (p : Place) (i : Instr) → Has l p i → is_new i ≡ true → is_acquire i ≡ false → Counted l p → Counted l (created p)
counted_created l p i h e f k =
    record { sites = omega (arith, counted_more is_new l p i true h e, k.sites); sections = omega (arith, counted_more is_acquire l p i false h f, k.sections) }

pub counted_entered : (l : Lowered) (p : Place) (i : Instr) → Has l p i → is_new i ≡ false → is_acquire i ≡ true → Counted l p → Counted l (entered p)
counted_entered l p i h e f k =
    record { sites = omega (arith, counted_more is_new l p i false h e, k.sites); sections = omega (arith, counted_more is_acquire l p i true h f, k.sections) }

operator_counts : (o : Operator) (x y z : ℕ) → (is_new (operator_instr o x y z) ≡ false) × (is_acquire (operator_instr o x y z) ≡ false)
operator_counts Add x y z = (refl, refl)
operator_counts Subtract x y z = (refl, refl)
operator_counts IsLess x y z = (refl, refl)
operator_counts IsEqual x y z = (refl, refl)

pub moves_counted : (sc : Scope) (l : Lowered) (args : List (List ℕ)) (p : Place) (to : ℕ) → AreMoved sc l args p to → Counted l p → Counted l (past_moves args p)
moves_counted sc l [] p to h k = k
moves_counted sc l (a ∷ rest) p to h k =
    moves_counted sc l rest (next p) (suc to) h.1 (counted_next l p _ h.0 refl refl k)

pub value_counted : (sc : Scope) (l : Lowered) (to : ℕ) (v : Value) (p : Place) → IsLoweredValue sc l to v p → Counted l p → Counted l (past_value v p)
value_counted sc l to (IntegerValue z) p h k = counted_next l p _ h refl refl k
value_counted sc l to NullValue p h k = counted_next l p _ h refl refl k
value_counted sc l to (LocalValue y) p h k = counted_next l p _ h refl refl k
value_counted sc l to (BinaryValue y o z) p h k = (let e = operator_counts o to (register sc y) (register sc z) in counted_next l p _ h e.0 e.1 k)
value_counted sc l to (GlobalValue g) p h k = counted_next l p _ h refl refl k
value_counted sc l to (FieldValue y n) p h k = counted_next l p _ h refl refl k
value_counted sc l to (LoadValue y) p h k = counted_next l p _ h refl refl k
value_counted sc l to (NewValue n) p h k = counted_created l p _ h refl refl k
value_counted sc l to (CallValue f args) p h k =
    counted_next l (past_moves args p) _ h.1 refl refl (moves_counted sc l args p _ h.0 k)

mutual
  pub stmt_counted : (sc : Scope) (l : Lowered) (s : Statement) (p : Place) → IsLoweredStmt sc l s p → Counted l p → Counted l (past_stmt s p)
  stmt_counted sc l (AssignStatement x v) p h k = value_counted sc l (register sc x) v p h k
  stmt_counted sc l (StoreStatement x y) p h k = counted_next l p _ h refl refl k
  stmt_counted sc l (OutStatement x) p h k = counted_next l p _ h refl refl k
  stmt_counted sc l (IfStatement x a e) p h k =
      else_counted sc l e (past_block a (next p)) h.2 (block_counted sc l a (next p) h.1 (counted_next l p _ h.0 refl refl k))
  stmt_counted sc l (WhileStatement x a) p h k =
      counted_next l (past_block a (next p)) _ h.2 refl refl (block_counted sc l a (next p) h.1 (counted_next l p _ h.0 refl refl k))
  stmt_counted sc l (AtomicStatement a) p h k =
      counted_next l (past_block a (entered p)) _ h.2 refl refl (block_counted sc l a (entered p) h.1 (counted_entered l p _ h.0 refl refl k))

  pub block_counted : (sc : Scope) (l : Lowered) (b : Block) (p : Place) → IsLoweredBlock sc l b p → Counted l p → Counted l (past_block b p)
  block_counted sc l NoMore p h k = k
  block_counted sc l (Then s b) p h k =
      block_counted sc l b (past_stmt s p) h.1 (stmt_counted sc l s p h.0 k)

  pub else_counted : (sc : Scope) (l : Lowered) (e : Block) (p : Place) → IsLoweredElse sc l e p → Counted l p → Counted l (past_else e p)
  else_counted sc l NoMore p h k = k
  else_counted sc l (Then s b) p h k =
      block_counted sc l b (past_stmt s (next p)) h.2 (stmt_counted sc l s (next p) h.1 (counted_next l p _ h.0 refl refl k))

pub function_counted : (is : List Item) (l : Lowered) (n : ℕ) (f : Function) (p : Place) → IsLoweredFunction is l n f p → Counted l p → Counted l (past_function f p)
function_counted is l n f p h k =
    counted_next l (past_block f.body p) _ h.returns refl refl (block_counted _ l f.body p h.body k)

pub functions_counted : (is : List Item) (l : Lowered) (n : ℕ) (fs : List Function) (p : Place) → AreLoweredFunctions is l n fs p → Counted l p → Counted l (past_functions fs p)
functions_counted is l n [] p h k = k
functions_counted is l n (f ∷ fs) p h k =
    functions_counted is l (suc n) fs (past_function f p) h.1 (function_counted is l n f p h.0 k)
