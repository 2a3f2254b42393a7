-- The function at which the code of a program passes the limit.
use Rattle.std.proofs.Common.{◌≡◌, ◌≢◌, ℕ, zero, suc, ◌+◌, ◌-◌, ◌<◌, ◌≤◌, List, [], ◌∷◌, length, take, drop, map, refl, sym, ap, ◌∙◌, subst, arith, drop-cons, get_or}
use Rattle.asl_syntax.specs.declared.name.Name as name
use Rattle.asl_syntax.specs.declared.tree.Item as code
use Rattle.asl_syntax.specs.declared.tree.Item.TheVariants as variant
use Rattle.asl_syntax.specs.declared.tree.Function as function
use Rattle.asl_syntax.specs.View.{item_of, function_of}
use Rattle.asl_syntax.specs.Tree.{Value, IntegerValue, NullValue, LocalValue, BinaryValue, GlobalValue, FieldValue, LoadValue, NewValue, CallValue, Statement, AssignStatement, StoreStatement, OutStatement, IfStatement, WhileStatement, AtomicStatement, Block, NoMore, Then, Function, Item, functions_of}
use Rattle.asl_lower.specs.Place.{origin, past_functions}
use Rattle.asl_lower.specs.Size.{value_size, stmt_size, block_size, else_size, functions_size}
use Rattle.asl_lower.proofs.Sized.{functions_sized}
use Rattle.asl_diagnose_text.specs.declared.code_walk.Passed.{Passed}
use Rattle.asl_diagnose_text.specs.AccessView.{after, after_value, after_stmt, after_block, after_else, after_function, room}
use Rattle.asl_diagnose_text.specs.Places.{IsOverfull}

-- ---- what is left after code is less by its size

value_left : (a : Passed) (v : Value) → (after_value a v).left ≡ a.left - value_size v
value_left a (IntegerValue z) = refl
value_left a NullValue = refl
value_left a (LocalValue y) = refl
value_left a (BinaryValue y o z) = refl
value_left a (GlobalValue g) = refl
value_left a (FieldValue y n) = refl
value_left a (LoadValue y) = refl
value_left a (NewValue n) = refl
value_left a (CallValue f args) = refl

mutual
  stmt_left : (a : Passed) (s : Statement) → (after_stmt a s).left ≡ a.left - stmt_size s
  stmt_left a (AssignStatement x v) = value_left a v
  stmt_left a (StoreStatement x y) = refl
  stmt_left a (OutStatement x) = refl
  stmt_left a (IfStatement x b e) = omega (arith, block_left (after a 1) b, else_left (after_block (after a 1) b) e)
  stmt_left a (WhileStatement x b) = omega (arith, block_left (after a 1) b)
  stmt_left a (AtomicStatement b) = omega (arith, block_left (after a 1) b)

  block_left : (a : Passed) (b : Block) → (after_block a b).left ≡ a.left - block_size b
  block_left a NoMore = omega arith
  block_left a (Then s b) = omega (arith, stmt_left a s, block_left (after_stmt a s) b)

  else_left : (a : Passed) (e : Block) → (after_else a e).left ≡ a.left - else_size e
  else_left a NoMore = omega arith
  else_left a (Then s b) = omega (arith, stmt_left (after a 1) s, block_left (after_stmt (after a 1) s) b)

function_left : (a : Passed) (f : Function) → (after_function a f).left ≡ a.left - suc (block_size f.body)
function_left a f = omega (arith, block_left a f.body)

-- ---- functions, one by one

-- so many functions were passed, after them these are left, and some of one instruction more than the limit
pub record IsPast (fs rest : List Function) (number : ℕ) (passed : Passed) : Type 0 where
  pub rest_is : drop number fs ≡ rest
  pub fits : functions_size (take number fs) + passed.left ≡ 65536
  pub some : 0 < passed.left
  pub few : room passed ≤ 65536

record Next (n : ℕ) (fs : List Function) (f : Function) (more : List Function) : Type 0 where
  there : n < length fs
  rest_is : drop (suc n) fs ≡ more
  taken : functions_size (take (suc n) fs) ≡ functions_size (take n fs) + suc (block_size f.body)

next_of : (n : ℕ) (fs : List Function) (f : Function) (more : List Function) → drop n fs ≡ f ∷ more → Next n fs f more
next_of zero [] f more e = absurd cc
next_of zero (g ∷ fs) f more e =
    let same : g ≡ f = cc in
    let rest : fs ≡ more = cc in
    record {
      there = omega arith;
      rest_is = rest;
      taken = omega (arith, ap (λ (u : Function). block_size u.body) same);
    }
next_of (suc n) [] f more e = absurd cc
next_of (suc n) (g ∷ fs) f more e =
    let k = next_of n fs f more e in
    record { there = omega (arith, k.there); rest_is = k.rest_is; taken = omega (arith, k.taken) }

all_taken : (n : ℕ) (fs : List Function) → drop n fs ≡ [] → functions_size (take n fs) ≡ functions_size fs
all_taken zero [] e = refl
all_taken zero (g ∷ fs) e = absurd cc
all_taken (suc n) [] e = refl
all_taken (suc n) (g ∷ fs) e = omega (arith, all_taken n fs e)

pub one_past : (fs rest more : List Function) (f : Function) (number next : ℕ) (passed result new : Passed) → IsPast fs rest number passed → rest ≡ f ∷ more → next ≡ number + 1 → new ≡ result → result ≡ after_function passed f → room result ≤ room passed → result.left ≢ 0 → IsPast fs more next new
one_past fs rest more f number next passed result new h e n same is less some =
    let k = next_of number fs f more (h.rest_is ∙ e) in
    let left : result.left ≡ passed.left - suc (block_size f.body) = ap (λ (p : Passed). p.left) is ∙ function_left passed f in
    let P : ℕ → Type 0 = λ m. IsPast fs more m new in
    let Q : Passed → Type 0 = λ p. IsPast fs more (suc number) p in
    let counted : suc number ≡ next = omega (arith, n) in
    subst P counted (subst Q (sym same) (record { rest_is = k.rest_is; fits = omega (arith, k.taken, h.fits, left, some); some = omega (arith, some); few = omega (arith, less, h.few) }))

pub overfull_here : (tree : List Item) (rest more : List Function) (f : Function) (number : ℕ) (passed new : Passed) → IsPast (functions_of tree) rest number passed → rest ≡ f ∷ more → new ≡ after_function passed f → new.left ≡ 0 → IsOverfull tree number
overfull_here tree rest more f number passed new h e is none =
    let fs : List Function = functions_of tree in
    let k = next_of number fs f more (h.rest_is ∙ e) in
    let left : new.left ≡ passed.left - suc (block_size f.body) = ap (λ (p : Passed). p.left) is ∙ function_left passed f in
    record {
      there = k.there;
      fits = omega (arith, functions_sized (take number fs) origin, h.fits, h.some);
      passes = omega (arith, functions_sized (take (suc number) fs) origin, k.taken, h.fits, left, none);
    }

pub never_overfull : (tree : List Item) (rest : List Function) (number : ℕ) (passed : Passed) → IsPast (functions_of tree) rest number passed → rest ≡ [] → 65535 < (past_functions (functions_of tree) origin).pc → ⊥
never_overfull tree rest number passed h e many =
    let fs : List Function = functions_of tree in
    omega (arith, functions_sized fs origin, all_taken number fs (h.rest_is ∙ e), h.fits, h.some, many)

-- the items that are left
items_next : (items : List code.Item) (i : ℕ) (x : code.Item) → i < length items → x ≡ get_or items i x → map item_of (drop i items) ≡ item_of x ∷ map item_of (drop (i + 1) items)
items_next items i x there e =
    let P : ℕ → Type 0 = λ n. map item_of (drop i items) ≡ item_of x ∷ map item_of (drop n items) in
    let step : drop i items ≡ get_or items i x ∷ drop (suc i) items = drop-cons items i x there in
    let same : suc i ≡ i + 1 = omega arith in
    subst P same (ap (map item_of) (step ∙ ap (λ (y : code.Item). y ∷ drop (suc i) items) (sym e)))

pub function_next : (items : List code.Item) (i : ℕ) (x : code.Item) (f : function.Function) → i < length items → x ≡ get_or items i x → x ≡ variant.Function f → functions_of (map item_of (drop i items)) ≡ function_of f ∷ functions_of (map item_of (drop (i + 1) items))
function_next items i x f there e is =
    ap functions_of (items_next items i x there e) ∙ ap (λ (y : code.Item). functions_of (item_of y ∷ map item_of (drop (i + 1) items))) is

pub global_next : (items : List code.Item) (i : ℕ) (x : code.Item) (g : name.Name) → i < length items → x ≡ get_or items i x → x ≡ variant.Global g → functions_of (map item_of (drop i items)) ≡ functions_of (map item_of (drop (i + 1) items))
global_next items i x g there e is =
    ap functions_of (items_next items i x there e) ∙ ap (λ (y : code.Item). functions_of (item_of y ∷ map item_of (drop (i + 1) items))) is

pub same_past : (fs rest more : List Function) (number next : ℕ) (passed new : Passed) → IsPast fs rest number passed → rest ≡ more → next ≡ number → new ≡ passed → IsPast fs more next new
same_past fs rest more number next passed new h e n is =
    let P : Passed → Type 0 = λ p. IsPast fs more next p in
    subst P (sym is) (record {
      rest_is = ap (λ (m : ℕ). drop m fs) n ∙ h.rest_is ∙ e;
      fits = omega (arith, ap (λ (m : ℕ). functions_size (take m fs)) n, h.fits);
      some = h.some;
      few = h.few;
    })

drop_all : (i : ℕ) (items : List code.Item) → length items ≤ i → drop i items ≡ []
drop_all zero [] h = refl
drop_all zero (x ∷ items) h = absurd (omega arith)
drop_all (suc i) [] h = refl
drop_all (suc i) (x ∷ items) h = drop_all i items (omega arith)

pub none_left : (items : List code.Item) (i : ℕ) → length items ≤ i → functions_of (map item_of (drop i items)) ≡ []
none_left items i h = ap (λ (xs : List code.Item). functions_of (map item_of xs)) (drop_all i items h)
