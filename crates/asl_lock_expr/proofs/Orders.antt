-- Laws of the order of locks, and of a lock put at its place in a list in order.
use Rattle.std.proofs.Common.{◌≡◌, IsTrue, Bool, true, false, not, Option, None, Some, IfSome, IfNone, ℕ, zero, suc, ◌+◌, ◌<◌, ◌≤◌, ◌⊎◌, ◌↔◌, ◌++◌, List, [], ◌∷◌, map, length, get_or, refl, sym, ap, ap₂, ◌∙◌, subst, inl, inr, arith}
use Rattle.std.specs.declared.cmp.Ordering.TheVariants.{Less, Equal, Greater}
use Rattle.std.specs.Prelude.{insert}
use Rattle.std.specs.Option.{is_some}
use Rattle.std.specs.Ordering.{ordering_reverse}
use Rattle.std.proofs.lemmas.Bool.{cases_lt}
use Rattle.std.specs.Cmp.{IsTotalOrder, on_total}
use Rattle.std.specs.Cmp.Lexicographic.{nat_list_cmp_total}
use Rattle.std.specs.FinMap.{nat_cmp-IsAntisymmetric, slice_cmp-IsAntisymmetric}
use Rattle.asl_code.specs.declared.value.Effect.{Effect}
use Rattle.asl_code.specs.declared.value.Effect.TheVariants.{Read, Write}
use Rattle.asl_code.specs.declared.lock.Base.{Base}
use Rattle.asl_code.specs.declared.lock.Base.TheVariants.{Reg, Global}
use Rattle.asl_code.specs.declared.lock.Expr.{Expr}
use Rattle.asl_code.specs.declared.lock.Lock.{Lock}
use Rattle.asl_code.specs.declared.lock.Lock.TheVariants as lock
use Rattle.asl_code.specs.declared.path.Op.{Op}
use Rattle.asl_code.specs.declared.path.Op.TheVariants.{Deref, Off}
use Rattle.asl_lock_expr.specs.Links.{IsOne}
use Rattle.asl_lock_expr.specs.Order.{effect_code, op_code, base_code, lock_code, lock_cmp, AreInOrder}
use Rattle.asl_lock_expr.specs.Placing.{placed, placed_by}

effect_same : (a b : Effect) → effect_code a ≡ effect_code b → a ≡ b
effect_same Read Read e = refl
effect_same Read Write e = cc
effect_same Write Read e = cc
effect_same Write Write e = refl

op_same : (a b : Op) → op_code a ≡ op_code b → a ≡ b
op_same Deref Deref e = refl
op_same Deref (Off j) e = absurd (omega arith)
op_same (Off i) Deref e = absurd (omega arith)
op_same (Off i) (Off j) e = let same : i ≡ j = omega arith in ap Off same

-- paths that end alike are the same
ends_same : (p q : List Op) (x y : ℕ) → map op_code p ++ 0 ∷ x ∷ [] ≡ map op_code q ++ 0 ∷ y ∷ [] → (p ≡ q) × (x ≡ y)
ends_same [] [] x y e = (refl, cc)
ends_same [] (Deref ∷ q) x y e = cc
ends_same [] (Off j ∷ q) x y e = let z : 0 ≡ j + 2 = cc in absurd (omega arith)
ends_same (Deref ∷ p) [] x y e = cc
ends_same (Off i ∷ p) [] x y e = let z : i + 2 ≡ 0 = cc in absurd (omega arith)
ends_same (o ∷ p) (n ∷ q) x y e =
    let first : op_code o ≡ op_code n = cc in
    let rest : map op_code p ++ 0 ∷ x ∷ [] ≡ map op_code q ++ 0 ∷ y ∷ [] = cc in
    let r = ends_same p q x y rest in
    (ap₂ (λ (a : Op) (b : List Op). a ∷ b) (op_same o n first) r.0, r.1)

expr_same : (a b : Base) (p q : List Op) (x y : ℕ) → base_code a ++ (map op_code p ++ 0 ∷ x ∷ []) ≡ base_code b ++ (map op_code q ++ 0 ∷ y ∷ []) → (a ≡ b) × (p ≡ q) × (x ≡ y)
expr_same (Reg m) (Reg n) p q x y e =
    let same : m ≡ n = cc in
    let r = ends_same p q x y cc in
    (ap Reg same, r.0, r.1)
expr_same (Reg m) (Global n) p q x y e = absurd (cc)
expr_same (Global m) (Reg n) p q x y e = absurd (cc)
expr_same (Global m) (Global n) p q x y e =
    let same : m ≡ n = cc in
    let r = ends_same p q x y cc in
    (ap Global same, r.0, r.1)

-- locks with the same numbers are the same
pub lock_same : (a b : Lock) → lock_code a ≡ lock_code b → a ≡ b
lock_same (lock.Root x) (lock.Root y) e = ap lock.Root (effect_same x y cc)
lock_same (lock.Root x) (lock.Class d y) e = cc
lock_same (lock.Root x) (lock.Expr f y) e = elim f.base as (λ b. 0 ∷ effect_code x ∷ [] ≡ base_code b ++ (map op_code f.path ++ 0 ∷ effect_code y ∷ []) → lock.Root x ≡ lock.Expr f y) [ Reg n ↦ λ h. absurd (cc) | Global n ↦ λ h. absurd (cc) ] e
lock_same (lock.Class c x) (lock.Root y) e = cc
lock_same (lock.Class c x) (lock.Class d y) e =
    let same : c ≡ d = cc in
    ap₂ (λ (n : ℕ) (f : Effect). lock.Class n f) same (effect_same x y cc)
lock_same (lock.Class c x) (lock.Expr f y) e = elim f.base as (λ b. 1 ∷ c ∷ effect_code x ∷ [] ≡ base_code b ++ (map op_code f.path ++ 0 ∷ effect_code y ∷ []) → lock.Class c x ≡ lock.Expr f y) [ Reg n ↦ λ h. absurd (cc) | Global n ↦ λ h. absurd (cc) ] e
lock_same (lock.Expr f x) (lock.Root y) e = elim f.base as (λ b. base_code b ++ (map op_code f.path ++ 0 ∷ effect_code x ∷ []) ≡ 0 ∷ effect_code y ∷ [] → lock.Expr f x ≡ lock.Root y) [ Reg n ↦ λ h. absurd (cc) | Global n ↦ λ h. absurd (cc) ] e
lock_same (lock.Expr f x) (lock.Class d y) e = elim f.base as (λ b. base_code b ++ (map op_code f.path ++ 0 ∷ effect_code x ∷ []) ≡ 1 ∷ d ∷ effect_code y ∷ [] → lock.Expr f x ≡ lock.Class d y) [ Reg n ↦ λ h. absurd (cc) | Global n ↦ λ h. absurd (cc) ] e
lock_same (lock.Expr f x) (lock.Expr g y) e =
    let r = expr_same f.base g.base f.path g.path (effect_code x) (effect_code y) e in
    let same : f ≡ g = (λ i. record { base = r.0 i; path = r.1 i }) in
    ap₂ (λ (h : Expr) (z : Effect). lock.Expr h z) same (effect_same x y r.2)

pub lock_total : IsTotalOrder lock_cmp
lock_total = on_total lock_code nat_list_cmp_total

-- locks that the order does not tell apart are the same
pub lock_exact : (a b : Lock) → lock_cmp a b ≡ Equal → a ≡ b
lock_exact a b e = lock_same a b (slice_cmp-IsAntisymmetric nat_cmp-IsAntisymmetric _ _ e)

-- what is in the list with the new lock was there or is the new one
pub placed_ones : (ms : List Lock) (n k : Lock) → IsOne (placed ms n) k → IsOne ms k ⊎ (n ≡ k)
placed_ones [] n k o = elim o [ inl e ↦ inr e | inr e ↦ absurd e ]
placed_ones (m ∷ ms) n k o =
    elim (lock_cmp m n) as (λ r. IsOne (placed_by r m ms n (placed ms n)) k → IsOne (m ∷ ms) k ⊎ (n ≡ k)) [
      | Less ↦ λ h. elim h [ inl e ↦ inl (inl e) | inr p ↦ elim (placed_ones ms n k p) [ inl q ↦ inl (inr q) | inr q ↦ inr q ] ]
      | Equal ↦ λ h. inl h
      | Greater ↦ λ h. elim h [ inl e ↦ inr e | inr p ↦ inl p ]
    ] o

pub placed_from : (ms : List Lock) (n k : Lock) → IsOne ms k ⊎ (n ≡ k) → IsOne (placed ms n) k
placed_from [] n k o = elim o [ inl e ↦ absurd e | inr e ↦ inl e ]
placed_from (m ∷ ms) n k o =
    elim (lock_cmp m n) as (λ r. lock_cmp m n ≡ r → IsOne (m ∷ ms) k ⊎ (n ≡ k) → IsOne (placed_by r m ms n (placed ms n)) k) [
      | Less ↦ λ is h. elim h [
        | inl p ↦ elim p [ inl e ↦ inl e | inr q ↦ inr (placed_from ms n k (inl q)) ]
        | inr e ↦ inr (placed_from ms n k (inr e))
      ]
      | Equal ↦ λ is h. elim h [ inl p ↦ p | inr e ↦ inl (lock_exact m n is ∙ e) ]
      | Greater ↦ λ is h. elim h [ inl p ↦ inr p | inr e ↦ inl e ]
    ] refl o

pub placed_in_order : (ms : List Lock) (n : Lock) → AreInOrder ms → AreInOrder (placed ms n)
placed_in_order [] n all = ((λ b o. absurd o), tt)
placed_in_order (m ∷ ms) n all =
    elim (lock_cmp m n) as (λ r. lock_cmp m n ≡ r → AreInOrder (placed_by r m ms n (placed ms n))) [
      | Less ↦ λ is. ((λ b o. elim (placed_ones ms n b o) [ inl p ↦ all.0 b p | inr e ↦ subst (λ (x : Lock). lock_cmp m x ≡ Less) e is ]), placed_in_order ms n all.1)
      | Equal ↦ λ is. all
      | Greater ↦ λ is.
          let below : lock_cmp n m ≡ Less = lock_total.antisymm n m ∙ ap ordering_reverse is in
          ((λ b o. elim o [ inl e ↦ subst (λ (x : Lock). lock_cmp n x ≡ Less) e below | inr p ↦ lock_total.trans n m b below (all.0 b p) ]), all)
    ] refl

-- the first of a list comes before none that is in it
not_less_itself : (a : Lock) → lock_cmp a a ≡ Less → ⊥
not_less_itself a e = let back : lock_cmp a a ≡ Greater = lock_total.antisymm a a ∙ ap ordering_reverse e in cc

-- the first locks of two lists in order that have the same locks are the same
same_first : (m n : Lock) (ms ns : List Lock) → AreInOrder (m ∷ ms) → AreInOrder (n ∷ ns) → ((l : Lock) → IsOne (m ∷ ms) l ↔ IsOne (n ∷ ns) l) → m ≡ n
same_first m n ms ns up vp same =
    elim ((same m).0 (inl refl)) [
      | inl e ↦ sym e
      | inr p ↦ elim ((same n).1 (inl refl)) [
        | inl e ↦ e
        | inr q ↦ absurd (not_less_itself m (lock_total.trans m n m (up.0 n q) (vp.0 m p)))
      ]
    ]

pub one_list : (ms ns : List Lock) → AreInOrder ms → AreInOrder ns → ((l : Lock) → IsOne ms l ↔ IsOne ns l) → ms ≡ ns
one_list [] [] up vp same = refl
one_list [] (n ∷ ns) up vp same = absurd ((same n).1 (inl refl))
one_list (m ∷ ms) [] up vp same = absurd ((same m).0 (inl refl))
one_list (m ∷ ms) (n ∷ ns) up vp same =
    let e = same_first m n ms ns up vp same in
    let rest : (l : Lock) → IsOne ms l ↔ IsOne ns l = λ l. (
      λ o. elim ((same l).0 (inr o)) [ inl is ↦ absurd (not_less_itself m (subst (λ (x : Lock). lock_cmp m x ≡ Less) (sym is ∙ sym e) (up.0 l o))) | inr p ↦ p ],
      λ o. elim ((same l).1 (inr o)) [ inl is ↦ absurd (not_less_itself n (subst (λ (x : Lock). lock_cmp n x ≡ Less) (sym is ∙ e) (vp.0 l o))) | inr p ↦ p ],
    ) in
    ap₂ (λ (a : Lock) (b : List Lock). a ∷ b) e (one_list ms ns up.1 vp.1 rest)

itself : (a : Lock) → lock_cmp a a ≡ Equal
itself a = elim (lock_cmp a a) as (λ r. lock_cmp a a ≡ r → lock_cmp a a ≡ Equal) [
  | Less ↦ λ is. absurd (not_less_itself a is)
  | Equal ↦ λ is. is
  | Greater ↦ λ is. (let back : lock_cmp a a ≡ Less = lock_total.antisymm a a ∙ ap ordering_reverse is in absurd (not_less_itself a back))
] refl

-- where a lock goes in a list in order
pub placed_there : (ms : List Lock) (n : Lock) → AreInOrder ms → IsOne ms n → placed ms n ≡ ms
placed_there [] n all o = absurd o
placed_there (m ∷ ms) n all (inl e) = ap (λ t. placed_by t m ms n (placed ms n)) (subst (λ (x : Lock). lock_cmp m x ≡ Equal) e (itself m))
placed_there (m ∷ ms) n all (inr o) = ap (λ t. placed_by t m ms n (placed ms n)) (all.0 n o) ∙ ap (λ (xs : List Lock). m ∷ xs) (placed_there ms n all.1 o)

pub placed_at : (ms : List Lock) (n : Lock) (i : ℕ) (d : Lock) → i ≤ length ms → ((k : ℕ) → k < i → lock_cmp (get_or ms k d) n ≡ Less) → ((k : ℕ) → i ≤ k → k < length ms → lock_cmp (get_or ms k d) n ≡ Greater) → placed ms n ≡ insert ms i n
placed_at [] n zero d le low high = refl
placed_at [] n (suc i) d le low high = absurd (omega (arith, le))
placed_at (m ∷ ms) n zero d le low high = ap (λ t. placed_by t m ms n (placed ms n)) (high 0 (omega arith) (omega arith))
placed_at (m ∷ ms) n (suc i) d le low high =
    ap (λ t. placed_by t m ms n (placed ms n)) (low 0 (omega arith))
    ∙ ap (λ (xs : List Lock). m ∷ xs) (placed_at ms n i d (omega (arith, le)) (λ k lt. low (suc k) (omega (arith, lt))) (λ k ge lt. high (suc k) (omega (arith, ge)) (omega (arith, lt))))

-- the locks before one that comes before another come before that too, and those after one that comes after it, after it
one_at : (ms : List Lock) (k : ℕ) (d : Lock) → k < length ms → IsOne ms (get_or ms k d)
one_at [] k d lt = absurd (omega (arith, lt))
one_at (m ∷ ms) zero d lt = inl refl
one_at (m ∷ ms) (suc k) d lt = inr (one_at ms k d (omega (arith, lt)))

rising : (ms : List Lock) (d : Lock) → AreInOrder ms → (i j : ℕ) → i < j → j < length ms → lock_cmp (get_or ms i d) (get_or ms j d) ≡ Less
rising [] d all i j lt below = absurd (omega (arith, below))
rising (m ∷ ms) d all i zero lt below = absurd (omega (arith, lt))
rising (m ∷ ms) d all zero (suc j) lt below = all.0 _ (one_at ms j d (omega (arith, below)))
rising (m ∷ ms) d all (suc i) (suc j) lt below = rising ms d all.1 i j (omega (arith, lt)) (omega (arith, below))

pub lower_before : (ms : List Lock) (n d : Lock) (middle : ℕ) → AreInOrder ms → middle < length ms → lock_cmp (get_or ms middle d) n ≡ Less → (k : ℕ) → k < middle + 1 → lock_cmp (get_or ms k d) n ≡ Less
lower_before ms n d middle all there less k lt = elim (cases_lt k middle) [
  | inl low ↦ lock_total.trans (get_or ms k d) (get_or ms middle d) n (rising ms d all k middle low there) less
  | inr high ↦ let same : middle ≡ k = omega (arith, lt, high) in subst (λ i. lock_cmp (get_or ms i d) n ≡ Less) same less
]

pub higher_behind : (ms : List Lock) (n d : Lock) (middle : ℕ) → AreInOrder ms → lock_cmp (get_or ms middle d) n ≡ Greater → (k : ℕ) → middle ≤ k → k < length ms → lock_cmp (get_or ms k d) n ≡ Greater
higher_behind ms n d middle all greater k ge lt = elim (cases_lt middle k) [
  | inl low ↦
      let below : lock_cmp n (get_or ms middle d) ≡ Less = lock_total.antisymm n (get_or ms middle d) ∙ ap ordering_reverse greater in
      let after = lock_total.trans n (get_or ms middle d) (get_or ms k d) below (rising ms d all middle k low lt) in
      lock_total.antisymm (get_or ms k d) n ∙ ap ordering_reverse after
  | inr high ↦ let same : middle ≡ k = omega (arith, ge, high) in subst (λ i. lock_cmp (get_or ms i d) n ≡ Greater) same greater
]

pub equal_there : (ms : List Lock) (n d : Lock) (middle : ℕ) → AreInOrder ms → middle < length ms → lock_cmp (get_or ms middle d) n ≡ Equal → placed ms n ≡ ms
equal_there ms n d middle all there equal =
    placed_there ms n all (subst (IsOne ms) (lock_exact (get_or ms middle d) n equal) (one_at ms middle d there))

-- a lock that goes into a list is none of it
pub not_there : (ms : List Lock) (n : Lock) (i : ℕ) → AreInOrder ms → i ≤ length ms → placed ms n ≡ insert ms i n → ¬ IsOne ms n
not_there ms n i all le is o =
    let same : length ms ≡ length (insert ms i n) = ap length (sym (placed_there ms n all o) ∙ is) in
    let more = longer ms i le in
    omega (arith, same, more)
  where
    longer : (xs : List Lock) (k : ℕ) → k ≤ length xs → length (insert xs k n) ≡ length xs + 1
    longer [] zero l = refl
    longer [] (suc k) l = absurd (omega (arith, l))
    longer (x ∷ xs) zero l = omega arith
    longer (x ∷ xs) (suc k) l = let r = longer xs k (omega (arith, l)) in omega (arith, r)

-- a list is read alike whatever stands for what is past its end
pub read_alike : (xs : List Lock) (k : ℕ) (c d : Lock) → k < length xs → get_or xs k c ≡ get_or xs k d
read_alike [] k c d lt = absurd (omega (arith, lt))
read_alike (x ∷ xs) zero c d lt = refl
read_alike (x ∷ xs) (suc k) c d lt = read_alike xs k c d (omega (arith, lt))

-- a lock has no place to go to where it is one of the list
pub one_of_place : (ms : List Lock) (n : Lock) → AreInOrder ms → (o : Option ℕ) → IfSome o (λ i. i ≤ length ms) → IfSome o (λ i. placed ms n ≡ insert ms i n) → IfNone o (placed ms n ≡ ms)
    → (b : Bool) → is_some o ≡ not b → IsTrue b ↔ IsOne ms n
one_of_place ms n all None bound place there true e = (λ t. subst (λ (xs : List Lock). IsOne xs n) there (placed_from ms n n (inr refl)), λ o. refl)
one_of_place ms n all None bound place there false e = absurd cc
one_of_place ms n all (Some i) bound place there true e = absurd cc
one_of_place ms n all (Some i) bound place there false e = (λ t. absurd cc, λ o. absurd (not_there ms n i all bound place o))
