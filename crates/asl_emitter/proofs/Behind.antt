-- Where the locks that absorb one on an expression stand in a list in order: those on classes before it, and the one on the same
-- expression right behind it.
use Rattle.std.proofs.Common.{◌≡◌, ◌⊎◌, ⊎_elim, ◌↔◌, ℕ, zero, suc, ◌+◌, ◌<◌, ◌≤◌, Bool, IsTrue, true, false, List, [], ◌∷◌, ◌++◌, map, length, Some, slice_get, refl, ap, sym, subst, ◌∙◌, inl, inr, arith}
use Rattle.std.specs.declared.cmp.Ordering.TheVariants.{Less, Equal, Greater}
use Rattle.std.specs.Ordering.{nat_cmp, ordering_then, ordering_reverse}
use Rattle.std.specs.Cmp.{nat_cmp_is}
use Rattle.std.specs.Cmp.Lexicographic.{slice_cmp}
use Rattle.std.proofs.lemmas.Bool.{cases_lt}
use Rattle.std.proofs.lemmas.Option.{slice_get_within}
use Rattle.asl_code.specs.declared.value.Effect.{Effect}
use Rattle.asl_code.specs.declared.value.Effect.TheVariants.{Read, Write}
use Rattle.asl_code.specs.declared.lock.Base.{Base}
use Rattle.asl_code.specs.declared.lock.Base.TheVariants.{Reg, Global}
use Rattle.asl_code.specs.declared.lock.Expr.{Expr}
use Rattle.asl_code.specs.declared.lock.Lock.{Lock}
use Rattle.asl_code.specs.declared.lock.Lock.TheVariants as lock
use Rattle.asl_code.specs.declared.path.Op.{Op}
use Rattle.asl_code.specs.declared.path.Op.TheVariants.{Deref, Off}
use Rattle.asl_lock_expr.specs.Links.{IsOne}
use Rattle.asl_lock_expr.specs.Order.{effect_code, op_code, base_code, lock_cmp, AreInOrder}
use Rattle.asl_lock_expr.proofs.Orders.{lock_total}
use Rattle.asl_emitter.specs.Above.{is_expr}

-- a list of numbers comes before another by its first number, or by those after it
front : (m n : ℕ) (x y : List ℕ) → slice_cmp nat_cmp (m ∷ x) (n ∷ y) ≡ Less → (m < n) ⊎ ((m ≡ n) × (slice_cmp nat_cmp x y ≡ Less))
front m n x y less = elim (cases_lt m n) [
  | inl lt ↦ inl lt
  | inr ge ↦ elim (cases_lt n m) [
    | inl gt ↦
        let is : Greater ≡ nat_cmp m n = nat_cmp_is m n Greater gt in
        let never : Greater ≡ Less = ap (λ o. ordering_then o (slice_cmp nat_cmp x y)) is ∙ less in
        absurd cc
    | inr le ↦
        let same : m ≡ n = omega (arith, ge, le) in
        let is : Equal ≡ nat_cmp m n = nat_cmp_is m n Equal same in
        inr (same, ap (λ o. ordering_then o (slice_cmp nat_cmp x y)) is ∙ less)
  ]
]

-- two such numbers, each no more than the other, are the same
both_fronts : (m n : ℕ) (x y z : List ℕ) → slice_cmp nat_cmp (m ∷ x) (n ∷ y) ≡ Less → slice_cmp nat_cmp (n ∷ y) (m ∷ z) ≡ Less → (slice_cmp nat_cmp x y ≡ Less) × (slice_cmp nat_cmp y z ≡ Less)
both_fronts m n x y z a b =
    ⊎_elim
    (λ lt. ⊎_elim (λ gt. absurd (omega (arith, lt, gt))) (λ h. (let same = h.0 in absurd (omega (arith, lt, same)))) (front n m y z b))
    (λ h. ⊎_elim (λ gt. (let same = h.0 in absurd (omega (arith, gt, same)))) (λ k. (h.1, k.1)) (front n m y z b))
    (front m n x y a)

op_some : (o : Op) → 0 < op_code o
op_some Deref = omega arith
op_some (Off places) = omega arith

-- nothing comes between two paths of which the second differs in the effect alone
between_paths : (p q : List Op) (effect : Effect) → slice_cmp nat_cmp (map op_code p ++ 0 ∷ 0 ∷ []) (map op_code q ++ 0 ∷ effect_code effect ∷ []) ≡ Less
    → slice_cmp nat_cmp (map op_code q ++ 0 ∷ effect_code effect ∷ []) (map op_code p ++ 0 ∷ 1 ∷ []) ≡ Less → ⊥
between_paths [] [] Read a b = let never : Equal ≡ Less = a in cc
between_paths [] [] Write a b = let never : Equal ≡ Less = b in cc
between_paths [] (o ∷ q) effect a b =
    let some = op_some o in
    ⊎_elim (λ lt. omega (arith, lt)) (λ h. (let none = h.0 in omega (arith, some, none))) (front (op_code o) 0 (map op_code q ++ 0 ∷ effect_code effect ∷ []) (1 ∷ []) b)
between_paths (o ∷ p) [] effect a b =
    let some = op_some o in
    ⊎_elim (λ lt. omega (arith, lt)) (λ h. (let none = h.0 in omega (arith, some, none))) (front (op_code o) 0 (map op_code p ++ 0 ∷ 0 ∷ []) (effect_code effect ∷ []) a)
between_paths (o ∷ p) (n ∷ q) effect a b =
    let rest = both_fronts (op_code o) (op_code n) (map op_code p ++ 0 ∷ 0 ∷ []) (map op_code q ++ 0 ∷ effect_code effect ∷ []) (map op_code p ++ 0 ∷ 1 ∷ []) a b in
    between_paths p q effect rest.0 rest.1

between_bases : (a c : Base) (p q : List Op) (effect : Effect) → slice_cmp nat_cmp (base_code a ++ (map op_code p ++ 0 ∷ 0 ∷ [])) (base_code c ++ (map op_code q ++ 0 ∷ effect_code effect ∷ [])) ≡ Less
    → slice_cmp nat_cmp (base_code c ++ (map op_code q ++ 0 ∷ effect_code effect ∷ [])) (base_code a ++ (map op_code p ++ 0 ∷ 1 ∷ [])) ≡ Less → ⊥
between_bases (Reg m) (Reg n) p q effect x y =
    let rest = both_fronts m n (map op_code p ++ 0 ∷ 0 ∷ []) (map op_code q ++ 0 ∷ effect_code effect ∷ []) (map op_code p ++ 0 ∷ 1 ∷ []) x y in
    between_paths p q effect rest.0 rest.1
between_bases (Reg m) (Global n) p q effect x y = let never : Greater ≡ Less = y in cc
between_bases (Global m) (Reg n) p q effect x y = let never : Greater ≡ Less = x in cc
between_bases (Global m) (Global n) p q effect x y =
    let rest = both_fronts m n (map op_code p ++ 0 ∷ 0 ∷ []) (map op_code q ++ 0 ∷ effect_code effect ∷ []) (map op_code p ++ 0 ∷ 1 ∷ []) x y in
    between_paths p q effect rest.0 rest.1

-- no lock comes between the two on an expression
between : (e : Expr) (b : Lock) → lock_cmp (lock.Expr e Read) b ≡ Less → lock_cmp b (lock.Expr e Write) ≡ Less → ⊥
between e (lock.Root x) a b = elim e.base as (λ c. slice_cmp nat_cmp (base_code c ++ (map op_code e.path ++ 0 ∷ 0 ∷ [])) (0 ∷ effect_code x ∷ []) ≡ Less → ⊥) [ Reg n ↦ λ h. (let never : Greater ≡ Less = h in cc) | Global n ↦ λ h. (let never : Greater ≡ Less = h in cc) ] a
between e (lock.Class class x) a b = elim e.base as (λ c. slice_cmp nat_cmp (base_code c ++ (map op_code e.path ++ 0 ∷ 0 ∷ [])) (1 ∷ class ∷ effect_code x ∷ []) ≡ Less → ⊥) [ Reg n ↦ λ h. (let never : Greater ≡ Less = h in cc) | Global n ↦ λ h. (let never : Greater ≡ Less = h in cc) ] a
between e (lock.Expr g x) a b = between_bases e.base g.base e.path g.path x a b

same_front : (xs ys zs : List ℕ) → slice_cmp nat_cmp (xs ++ ys) (xs ++ zs) ≡ slice_cmp nat_cmp ys zs
same_front [] ys zs = refl
same_front (x ∷ xs) ys zs = ap (λ o. ordering_then o (slice_cmp nat_cmp (xs ++ ys) (xs ++ zs))) (sym (nat_cmp_is x x Equal refl)) ∙ same_front xs ys zs

read_first : (e : Expr) → lock_cmp (lock.Expr e Read) (lock.Expr e Write) ≡ Less
read_first e = same_front (base_code e.base) (map op_code e.path ++ 0 ∷ 0 ∷ []) (map op_code e.path ++ 0 ∷ 1 ∷ []) ∙ same_front (map op_code e.path) (0 ∷ 0 ∷ []) (0 ∷ 1 ∷ [])

some_same : {A : Type 0} {x y : A} → Some x ≡ Some y → x ≡ y
some_same e = cc

-- what stands at a place of a list is one of it
pub one_of : (xs : List Lock) (i : ℕ) (a : Lock) → slice_get xs i ≡ Some a → IsOne xs a
one_of [] i a at = cc
one_of (m ∷ ms) zero a at = inl (some_same at)
one_of (m ∷ ms) (suc i) a at = inr (one_of ms i a at)

-- in a list in order the lock that may write stands right behind that on the same expression that only reads
pub right_behind : (xs : List Lock) (i : ℕ) (e : Expr) → AreInOrder xs → slice_get xs i ≡ Some (lock.Expr e Read) → IsOne xs (lock.Expr e Write) → slice_get xs (suc i) ≡ Some (lock.Expr e Write)
right_behind [] i e all at o = absurd o
right_behind (m ∷ []) zero e all at o = elim o [ inl same ↦ (let never : lock.Expr e Read ≡ lock.Expr e Write = sym (some_same at) ∙ same in absurd cc) | inr out ↦ absurd out ]
right_behind (m ∷ n ∷ ns) zero e all at o =
    let is : m ≡ lock.Expr e Read = some_same at in
    elim o [
      | inl same ↦ (let never : lock.Expr e Read ≡ lock.Expr e Write = sym is ∙ same in absurd cc)
      | inr rest ↦ elim rest [
        | inl next ↦ ap (λ x. Some x) next
        | inr later ↦ absurd (between e n (subst (λ (x : Lock). lock_cmp x n ≡ Less) is (all.0 n (inl refl))) (all.1.0 (lock.Expr e Write) later))
      ]
    ]
right_behind (m ∷ ms) (suc i) e all at o = elim o [
  | inl same ↦
      let less : lock_cmp (lock.Expr e Write) (lock.Expr e Read) ≡ Less = subst (λ (x : Lock). lock_cmp x (lock.Expr e Read) ≡ Less) same (all.0 (lock.Expr e Read) (one_of ms i (lock.Expr e Read) at)) in
      let more : lock_cmp (lock.Expr e Write) (lock.Expr e Read) ≡ Greater = lock_total.antisymm (lock.Expr e Write) (lock.Expr e Read) ∙ ap ordering_reverse (read_first e) in
      let never : Less ≡ Greater = sym less ∙ more in
      absurd cc
  | inr later ↦ right_behind ms i e all.1 at later
]

-- so the next lock tells whether there is such a one
module _ (xs : List Lock) (i j : ℕ) (e : Expr) (all : AreInOrder xs) (next : j ≡ i + 1) (at : slice_get xs i ≡ Some (lock.Expr e Read)) where
  behind : IsOne xs (lock.Expr e Write) → slice_get xs j ≡ Some (lock.Expr e Write)
  behind o = let same : j ≡ suc i = omega (arith, next) in ap (λ n. slice_get xs n) same ∙ right_behind xs i e all at o

  pub next_tells : (b : Lock) (told : Bool) → slice_get xs j ≡ Some b → (IsTrue told ↔ (b ≡ lock.Expr e Write)) → IsTrue told ↔ IsOne xs (lock.Expr e Write)
  next_tells b told stands tells = (
    λ t. one_of xs j (lock.Expr e Write) (stands ∙ ap (λ (x : Lock). Some x) (tells.0 t)),
    λ o. tells.1 (some_same (sym stands ∙ behind o)),
  )

  pub next_none : length xs ≤ j → IsTrue false ↔ IsOne xs (lock.Expr e Write)
  next_none past = (λ t. absurd cc, λ o. (let lt = slice_get_within xs j (lock.Expr e Write) (behind o) in absurd (omega (arith, lt, past))))

pub expr_is : (a : Lock) → is_expr a ≡ true → (e : Expr) × (x : Effect) × (a ≡ lock.Expr e x)
expr_is (lock.Expr e x) t = (e, x, refl)
expr_is (lock.Class class x) t = absurd cc
expr_is (lock.Root x) t = absurd cc

-- a list in order that begins with a lock on an expression has none on a class
pub no_classes : (xs : List Lock) (e : Expr) (x : Effect) → AreInOrder xs → slice_get xs 0 ≡ Some (lock.Expr e x) → (class : ℕ) (y : Effect) → ¬ IsOne xs (lock.Class class y)
no_classes [] e x all at class y o = absurd o
no_classes (m ∷ ms) e x all at class y o =
    let is : m ≡ lock.Expr e x = some_same at in
    elim o [
      | inl same ↦ (let never : lock.Expr e x ≡ lock.Class class y = sym is ∙ same in cc)
      | inr later ↦
          elim e.base as (λ c. slice_cmp nat_cmp (base_code c ++ (map op_code e.path ++ 0 ∷ effect_code x ∷ [])) (1 ∷ class ∷ effect_code y ∷ []) ≡ Less → ⊥) [ Reg n ↦ λ h. (let never : Greater ≡ Less = h in cc) | Global n ↦ λ h. (let never : Greater ≡ Less = h in cc) ]
          (subst (λ (z : Lock). lock_cmp z (lock.Class class y) ≡ Less) is (all.0 (lock.Class class y) later))
    ]
