-- Locals are only added.
use Rattle.std.proofs.Common.{◌≡◌, ℕ, suc, ◌+◌, ◌<◌, ◌≤◌, Bool, true, false, ◌||◌, cond, List, [], ◌∷◌, ◌++◌, length, take, drop, get_or, refl, sym, ap, ◌∙◌, arith, length-append, drop-cons}
use Rattle.std.specs.Prelude.{bytes_eq}
use Rattle.std.specs.Borrow.{Bor}
use Rattle.std.proofs.lemmas.List.{map-append, length-take-le}
use Rattle.asl_syntax.specs.declared.tree.Statement as tree
use Rattle.asl_syntax.specs.Tree.{Statement, AssignStatement, StoreStatement, OutStatement, IfStatement, WhileStatement, AtomicStatement, Block, NoMore, Then}
use Rattle.asl_syntax.specs.View.{statement_of, block_of}
use Rattle.asl_lower.specs.NamesView.{names_of}
use Rattle.asl_lower.specs.Names.{has_name, number_of, with_name, stmt_locals, block_locals}

added : (b : Bool) (xs : List (List ℕ)) (x : List ℕ) → length xs ≤ length (cond b xs (xs ++ x ∷ []))
added true xs x = omega arith
added false xs x = omega (arith, length-append xs (x ∷ []))

mutual
  pub stmt_locals_grow : (xs : List (List ℕ)) (s : Statement) → length xs ≤ length (stmt_locals xs s)
  stmt_locals_grow xs (AssignStatement x v) = added (has_name xs x) xs x
  stmt_locals_grow xs (StoreStatement x y) = omega arith
  stmt_locals_grow xs (OutStatement x) = omega arith
  stmt_locals_grow xs (IfStatement x a b) = omega (arith, block_locals_grow xs a, block_locals_grow (block_locals xs a) b)
  stmt_locals_grow xs (WhileStatement x a) = block_locals_grow xs a
  stmt_locals_grow xs (AtomicStatement a) = block_locals_grow xs a

  pub block_locals_grow : (xs : List (List ℕ)) (b : Block) → length xs ≤ length (block_locals xs b)
  block_locals_grow xs NoMore = omega arith
  block_locals_grow xs (Then s b) = omega (arith, stmt_locals_grow xs s, block_locals_grow (stmt_locals xs s) b)

-- a statement's locals too many are too many in all
pub block_many : (ss : List tree.Statement) (i : ℕ) (s : tree.Statement) (xs ys : List (List ℕ)) → block_locals ys (block_of ss) ≡ block_locals xs (block_of (drop i ss)) → i < length ss → s ≡ get_or ss i s → 64 < length (stmt_locals xs (statement_of s)) → 64 < length (block_locals ys (block_of ss))
block_many ss i s xs ys e low same h =
    let f : drop i ss ≡ s ∷ drop (suc i) ss = drop-cons ss i s low ∙ ap (λ (t : tree.Statement). t ∷ drop (suc i) ss) (sym same) in
    let k : block_locals xs (block_of (drop i ss)) ≡ block_locals (stmt_locals xs (statement_of s)) (block_of (drop (suc i) ss)) = ap (λ (l : List tree.Statement). block_locals xs (block_of l)) f in
    omega (arith, ap length (e ∙ k), block_locals_grow (stmt_locals xs (statement_of s)) (block_of (drop (suc i) ss)))

pub if_many : (x : List ℕ) (xs : List (List ℕ)) (a b : Block) → 64 < length (block_locals xs a) → 64 < length (stmt_locals xs (IfStatement x a b))
if_many x xs a b h = omega (arith, block_locals_grow (block_locals xs a) b)

-- as many names as references
pub names_length : (ns : List (Bor (List ℕ))) → length (names_of ns) ≡ length ns
names_length [] = refl
names_length (n ∷ ns) = ap suc (names_length ns)

there_step : (b : Bool) (n m : ℕ) (h : Bool) → (n < m → h ≡ true) → cond b 0 (suc n) < suc m → (b || h) ≡ true
there_step true n m h f l = refl
there_step false n m h f l = f (omega arith)

new_step : (b : Bool) (n m : ℕ) (h : Bool) → (m ≤ n → h ≡ false) → suc m ≤ cond b 0 (suc n) → (b || h) ≡ false
new_step true n m h f l = absurd (omega arith)
new_step false n m h f l = f (omega arith)

-- a name is among others where its number is below theirs
pub number_there : (xs : List (List ℕ)) (x : List ℕ) → number_of xs x < length xs → has_name xs x ≡ true
number_there [] x l = absurd (omega arith)
number_there (y ∷ ys) x l = there_step (bytes_eq y x) (number_of ys x) (length ys) (has_name ys x) (number_there ys x) l

pub number_new : (xs : List (List ℕ)) (x : List ℕ) → length xs ≤ number_of xs x → has_name xs x ≡ false
number_new [] x l = refl
number_new (y ∷ ys) x l = new_step (bytes_eq y x) (number_of ys x) (length ys) (has_name ys x) (number_new ys x) l

pub kept_name : (ns ms : List (Bor (List ℕ))) (x : List ℕ) (r n : ℕ) → ms ≡ ns → r ≡ number_of (names_of ms) x → n ≡ length ns → r < n → names_of ns ≡ with_name (names_of ns) x
kept_name ns ms x r n e f g l =
    let low : number_of (names_of ns) x < length (names_of ns) = omega (arith, f, ap (λ (k : List (Bor (List ℕ))). number_of (names_of k) x) e, names_length ns) in
    sym (ap (λ (b : Bool). cond b (names_of ns) (names_of ns ++ x ∷ [])) (number_there (names_of ns) x low))

pub new_name : (ns ms : List (Bor (List ℕ))) (x : List ℕ) (r n : ℕ) → ms ≡ ns → r ≡ number_of (names_of ms) x → n ≡ length ns → n ≤ r → with_name (names_of ns) x ≡ names_of ns ++ x ∷ []
new_name ns ms x r n e f g l =
    let low : length (names_of ns) ≤ number_of (names_of ns) x = omega (arith, f, ap (λ (k : List (Bor (List ℕ))). number_of (names_of k) x) e, names_length ns) in
    ap (λ (b : Bool). cond b (names_of ns) (names_of ns ++ x ∷ [])) (number_new (names_of ns) x low)

-- one name more makes one local more
pub new_length : (ns : List (Bor (List ℕ))) (x : List ℕ) → with_name (names_of ns) x ≡ names_of ns ++ x ∷ [] → length (with_name (names_of ns) x) ≡ suc (length ns)
new_length ns x e =
    ap length e ∙ length-append (names_of ns) (x ∷ []) ∙ (let k : length (names_of ns) + 1 ≡ suc (length ns) = omega (arith, names_length ns) in k)

pub pushed_names : (ns ks : List (Bor (List ℕ))) (b : Bor (List ℕ)) → ks ≡ ns ++ b ∷ [] → names_of ks ≡ names_of ns ++ b.now ∷ []
pushed_names ns ks b e = ap names_of e ∙ map-append (λ (n : Bor (List ℕ)). n.now) ns (b ∷ [])

-- where 64 parameters are not all, there are too many locals
pub crowded_parameters : (ns : List (Bor (List ℕ))) (ps : List (List ℕ)) (i : ℕ) (b : Block) → names_of ns ≡ take i ps → length ns ≡ 64 → i < length ps → 64 < length (block_locals ps b)
crowded_parameters ns ps i b e full l =
    let k : i ≤ length ps = omega arith in
    omega (arith, names_length ns, ap length e, length-take-le i ps k, block_locals_grow ps b)
