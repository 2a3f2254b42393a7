-- What is left of a text's names gives the answers, step by step.
use Rattle.std.proofs.Common.{◌≡◌, ℕ, zero, suc, ◌+◌, ◌-◌, ◌<◌, List, [], ◌∷◌, Bool, true, false, ◌||◌, Option, Some, None, if◌then◌else◌, bytes_eq, refl, sym, ap, ◌∙◌, ◌≤◌, take, drop, arith}
use Rattle.std.proofs.Math.Path.{fun_ext}
use Rattle.asl_syntax.specs.declared.names.Space.{Space}
use Rattle.asl_syntax.specs.declared.names.Space.TheVariants.{Globals, Functions, Parameters}
use Rattle.asl_syntax.specs.Mentions.{Mention, DeclaresGlobal, DeclaresFunction, DeclaresParameter, AssignsLocal, UsesLocal, UsesGlobal, CallsFunction}
use Rattle.asl_syntax.specs.TokenNames.{mention_name}
use Rattle.asl_syntax.specs.Rules.{Names, no_name, declared_in, with_declared, names_in, first_twice}
use Rattle.asl_syntax.specs.Heard.{declares, is_repeated, IsOwnAfter}

-- ---- which names are known after one more mention

or_swap : (a b c : Bool) → (a || (b || c)) ≡ (b || (a || c))
or_swap true true c = refl
or_swap true false c = refl
or_swap false true c = refl
or_swap false false c = refl

swapped : (o p : Option (List ℕ)) (known : Names) → with_declared o (with_declared p known) ≡ with_declared p (with_declared o known)
swapped None p known = refl
swapped (Some x) None known = refl
swapped (Some x) (Some y) known = fun_ext (λ (q : List ℕ). or_swap (bytes_eq x q) (bytes_eq y q) (known q))

pub more_names : (s : Space) (n : ℕ) (ms : List Mention) (m : Mention) (rest : List Mention) → drop n ms ≡ m ∷ rest → names_in s (take (suc n) ms) ≡ with_declared (declared_in s m) (names_in s (take n ms))
more_names s zero ms m rest e = ap (λ (l : List Mention). names_in s (take 1 l)) e
more_names s (suc n) [] m rest e = absurd cc
more_names s (suc n) (y ∷ ys) m rest e =
    ap (λ (known : Names). with_declared (declared_in s y) known) (more_names s n ys m rest e)
    ∙ swapped (declared_in s y) (declared_in s m) (names_in s (take n ys))

pub drop_one : (n : ℕ) (ms : List Mention) (m : Mention) (rest : List Mention) → drop n ms ≡ m ∷ rest → drop (suc n) ms ≡ rest
drop_one zero ms m rest e = ap (λ (l : List Mention). drop 1 l) e
drop_one (suc n) [] m rest e = absurd cc
drop_one (suc n) (y ∷ ys) m rest e = drop_one n ys m rest e

-- whether a mention declares the name, or a later one does
pub one_declares : (o : Option (List ℕ)) (known : Names) (q : List ℕ) → with_declared o known q ≡ (with_declared o no_name q || known q)
one_declares None known q = refl
one_declares (Some x) known q = or_none (bytes_eq x q) (known q)
  where
    or_none : (a b : Bool) → (a || b) ≡ ((a || false) || b)
    or_none true b = refl
    or_none false b = refl

-- ---- what is declared twice

-- the answer of what is left, after n mentions of all, and k of the present function
abbrev pub twice_left : List Mention → List Mention → ℕ → ℕ → List Mention → Option (List ℕ)
twice_left all own n k rest =
    first_twice (names_in Globals (take n all)) (names_in Functions (take n all)) (names_in Parameters (take k own)) rest

-- one mention further
left_more : (all own : List Mention) (n k : ℕ) (m : Mention) (rest : List Mention) → drop n all ≡ m ∷ rest → drop k own ≡ m ∷ rest → twice_left all own (suc n) (suc k) rest ≡ first_twice (with_declared (declared_in Globals m) (names_in Globals (take n all))) (with_declared (declared_in Functions m) (names_in Functions (take n all))) (with_declared (declared_in Parameters m) (names_in Parameters (take k own))) rest
left_more all own n k m rest e f =
    ap (λ (gs : Names). first_twice gs (names_in Functions (take (suc n) all)) (names_in Parameters (take (suc k) own)) rest) (more_names Globals n all m rest e)
    ∙ ap (λ (fs : Names). first_twice (with_declared (declared_in Globals m) (names_in Globals (take n all))) fs (names_in Parameters (take (suc k) own)) rest) (more_names Functions n all m rest e)
    ∙ ap (λ (ps : Names). first_twice (with_declared (declared_in Globals m) (names_in Globals (take n all))) (with_declared (declared_in Functions m) (names_in Functions (take n all))) ps rest) (more_names Parameters k own m rest f)

not_here : (b : Bool) (x : List ℕ) (o : Option (List ℕ)) → b ≡ false → o ≡ (if b then Some x else o)
not_here true x o e = absurd cc
not_here false x o e = refl

here : (b : Bool) (x : List ℕ) (o : Option (List ℕ)) → b ≡ true → Some x ≡ (if b then Some x else o)
here true x o e = refl
here false x o e = absurd cc

-- a function begins with no parameter
twice_function : (all own : List Mention) (n k : ℕ) (x : List ℕ) (rest : List Mention) → drop n all ≡ DeclaresFunction x ∷ rest → names_in Functions (take n all) x ≡ false → twice_left all rest (suc n) 0 rest ≡ twice_left all own n k (DeclaresFunction x ∷ rest)
twice_function all own n k x rest e h =
    ap (λ (gs : Names). first_twice gs (names_in Functions (take (suc n) all)) no_name rest) (more_names Globals n all (DeclaresFunction x) rest e)
    ∙ ap (λ (fs : Names). first_twice (names_in Globals (take n all)) fs no_name rest) (more_names Functions n all (DeclaresFunction x) rest e)
    ∙ not_here (names_in Functions (take n all) x) x _ h

-- the answer continues after a mention that repeats none
abbrev GoesOn : List Mention → List Mention → List Mention → ℕ → ℕ → ℕ → List Mention → Mention → Type 0
GoesOn all own new n k j rest m =
    (drop j new ≡ rest) × (twice_left all new (suc n) j rest ≡ twice_left all own n k (m ∷ rest))

same_own : (all own new : List Mention) (n k j : ℕ) (m : Mention) (rest : List Mention) → drop k own ≡ m ∷ rest → (new ≡ own) × (j ≡ suc k) → twice_left all own (suc n) (suc k) rest ≡ twice_left all own n k (m ∷ rest) → GoesOn all own new n k j rest m
same_own all own new n k j m rest e both h = (
  ap (λ (l : List Mention). drop j l) both.0 ∙ ap (λ (i : ℕ). drop i own) both.1 ∙ drop_one k own m rest e,
  ap (λ (l : List Mention). twice_left all l (suc n) j rest) both.0 ∙ ap (λ (i : ℕ). twice_left all own (suc n) i rest) both.1 ∙ h,
)

pub twice_on : (all own new : List Mention) (n k j : ℕ) (m : Mention) (rest : List Mention) → drop n all ≡ m ∷ rest → drop k own ≡ m ∷ rest → is_repeated (take n all) (take k own) m ≡ false → IsOwnAfter m rest own k new j → GoesOn all own new n k j rest m
twice_on all own new n k j (DeclaresGlobal x) rest e f h both =
    same_own all own new n k j (DeclaresGlobal x) rest f both (left_more all own n k (DeclaresGlobal x) rest e f ∙ not_here (names_in Globals (take n all) x) x _ h)
twice_on all own new n k j (DeclaresParameter x) rest e f h both =
    same_own all own new n k j (DeclaresParameter x) rest f both (left_more all own n k (DeclaresParameter x) rest e f ∙ not_here (names_in Parameters (take k own) x) x _ h)
twice_on all own new n k j (DeclaresFunction x) rest e f h both = (
  ap (λ (l : List Mention). drop j l) both.0 ∙ ap (λ (i : ℕ). drop i rest) both.1,
  ap (λ (l : List Mention). twice_left all l (suc n) j rest) both.0 ∙ ap (λ (i : ℕ). twice_left all rest (suc n) i rest) both.1 ∙ twice_function all own n k x rest e h,
)
twice_on all own new n k j (AssignsLocal x) rest e f h both =
    same_own all own new n k j (AssignsLocal x) rest f both (left_more all own n k (AssignsLocal x) rest e f)
twice_on all own new n k j (UsesLocal x) rest e f h both =
    same_own all own new n k j (UsesLocal x) rest f both (left_more all own n k (UsesLocal x) rest e f)
twice_on all own new n k j (UsesGlobal x) rest e f h both =
    same_own all own new n k j (UsesGlobal x) rest f both (left_more all own n k (UsesGlobal x) rest e f)
twice_on all own new n k j (CallsFunction x i) rest e f h both =
    same_own all own new n k j (CallsFunction x i) rest f both (left_more all own n k (CallsFunction x i) rest e f)

-- and is the name of one that does
pub twice_here : (all own : List Mention) (n k : ℕ) (m : Mention) (rest : List Mention) → is_repeated (take n all) (take k own) m ≡ true → Some (mention_name m) ≡ twice_left all own n k (m ∷ rest)
twice_here all own n k (DeclaresGlobal x) rest h = here (names_in Globals (take n all) x) x _ h
twice_here all own n k (DeclaresFunction x) rest h = here (names_in Functions (take n all) x) x _ h
twice_here all own n k (DeclaresParameter x) rest h = here (names_in Parameters (take k own) x) x _ h
twice_here all own n k (AssignsLocal x) rest h = absurd cc
twice_here all own n k (UsesLocal x) rest h = absurd cc
twice_here all own n k (UsesGlobal x) rest h = absurd cc
twice_here all own n k (CallsFunction x i) rest h = absurd cc

-- a count of own mentions grows by one at most
pub own_few : (m : Mention) (rest own new : List Mention) (k j : ℕ) → IsOwnAfter m rest own k new j → j ≤ suc k
own_few (DeclaresFunction x) rest own new k j both = omega (arith, both.1)
own_few _ rest own new k j both = omega (arith, both.1)

-- ---- one word fewer

or_false : (a b r : Bool) → a ≡ false → (a || b) ≡ r → b ≡ r
or_false true b r e f = absurd cc
or_false false b r e f = f

pub one_fewer : (s : Space) (n : ℕ) (ms : List Mention) (m : Mention) (rest : List Mention) (q : List ℕ) (r : Bool) → 0 < n → ms ≡ m ∷ rest → declares s m q ≡ false → names_in s (take n ms) q ≡ r → names_in s (take (n - 1) rest) q ≡ r
one_fewer s zero ms m rest q r l e h k = absurd (none_below l)
  where
    none_below : 0 < 0 → ⊥
    none_below l = omega arith
one_fewer s (suc n) ms m rest q r l e h k =
    let known : Names = names_in s (take n rest) in
    let all : with_declared (declared_in s m) known q ≡ r = ap (λ (l : List Mention). names_in s (take (suc n) l) q) (sym e) ∙ k in
    let left : known q ≡ r = or_false (declares s m q) (known q) r h (sym (one_declares (declared_in s m) known q) ∙ all) in
    let same : suc n - 1 ≡ n = omega arith in
    ap (λ (i : ℕ). names_in s (take i rest) q) same ∙ left

-- the same with a count of one more
plus_one : (n : ℕ) → n + 1 ≡ suc n
plus_one n = omega arith

pub after_on : (all : List Mention) (n : ℕ) (m : Mention) (rest : List Mention) → drop n all ≡ m ∷ rest → drop (n + 1) all ≡ rest
after_on all n m rest e = ap (λ (i : ℕ). drop i all) (plus_one n) ∙ drop_one n all m rest e

pub left_on : (all own new : List Mention) (n k j : ℕ) (m : Mention) (rest : List Mention) (r : Option (List ℕ)) → twice_left all new (suc n) j rest ≡ twice_left all own n k (m ∷ rest) → twice_left all own n k (m ∷ rest) ≡ r → twice_left all new (n + 1) j rest ≡ r
left_on all own new n k j m rest r e h =
    ap (λ (i : ℕ). twice_left all new i j rest) (plus_one n) ∙ e ∙ h
