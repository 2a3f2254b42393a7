-- The order that the types of locks declare is the order of their numbers.
use Rattle.std.proofs.Common.{◌≡◌, ℕ, ◌+◌, ◌<◌, ◌++◌, List, [], ◌∷◌, map, refl, ap, ap₂, sym, ◌∙◌, arith}
use Rattle.std.specs.declared.cmp.Ordering.{Ordering}
use Rattle.std.specs.declared.cmp.Ordering.TheVariants.{Less, Equal, Greater}
use Rattle.std.specs.Ordering.{nat_cmp, ordering_then}
use Rattle.std.specs.Cmp.Lexicographic.{slice_cmp}
use Rattle.std.proofs.lemmas.Bool.Decides.{nat_tests}
use Rattle.asl_code.specs.declared.value.Effect.{Effect}
use Rattle.asl_code.specs.declared.value.Effect.TheVariants.{Read, Write}
use Rattle.asl_code.specs.declared.lock.Base.{Base}
use Rattle.asl_code.specs.declared.lock.Base.TheVariants.{Reg, Global}
use Rattle.asl_code.specs.declared.lock.Lock.{Lock}
use Rattle.asl_code.specs.declared.lock.Lock.TheVariants as lock
use Rattle.asl_code.specs.declared.path.Op.{Op}
use Rattle.asl_code.specs.declared.path.Op.TheVariants.{Deref, Off}
use Rattle.asl_code.specs.contracts.value.EffectOrd.TheImpl as effects
use Rattle.asl_code.specs.contracts.path.OpOrd.TheImpl as ops
use Rattle.asl_code.specs.contracts.lock.BaseOrd.TheImpl as bases
use Rattle.asl_code.specs.contracts.lock.LockOrd.TheImpl as locks
use Rattle.asl_lock_expr.specs.Order.{effect_code, op_code, base_code, lock_cmp}

effect_is : (x y : Effect) → effects.cmp-value.it x y ≡ nat_cmp (effect_code x) (effect_code y)
effect_is Read Read = refl
effect_is Read Write = refl
effect_is Write Read = refl
effect_is Write Write = refl

below_two : (x j : ℕ) → x < 2 → nat_cmp x (j + 2) ≡ Less
below_two x j lt = grind (arith, nat_tests)

above_two : (x j : ℕ) → x < 2 → nat_cmp (j + 2) x ≡ Greater
above_two x j lt = grind (arith, nat_tests)

past_two : (i j : ℕ) → nat_cmp i j ≡ nat_cmp (i + 2) (j + 2)
past_two i j = grind (arith, nat_tests)

op_is : (a b : Op) → ops.cmp-value.it a b ≡ nat_cmp (op_code a) (op_code b)
op_is Deref Deref = refl
op_is Deref (Off j) = sym (below_two 1 j (omega arith))
op_is (Off i) Deref = sym (above_two 1 i (omega arith))
op_is (Off i) (Off j) = past_two i j

then_equal : (o : Ordering) → ordering_then o Equal ≡ o
then_equal Less = refl
then_equal Equal = refl
then_equal Greater = refl

then_assoc : (a b c : Ordering) → ordering_then (ordering_then a b) c ≡ ordering_then a (ordering_then b c)
then_assoc Less b c = refl
then_assoc Equal b c = refl
then_assoc Greater b c = refl

path_is : (p q : List Op) (x y : ℕ) → ordering_then (slice_cmp ops.cmp-value.it p q) (nat_cmp x y) ≡ slice_cmp nat_cmp (map op_code p ++ 0 ∷ x ∷ []) (map op_code q ++ 0 ∷ y ∷ [])
path_is [] [] x y = sym (then_equal (nat_cmp x y))
path_is [] (Deref ∷ q) x y = refl
path_is [] (Off j ∷ q) x y = ap (λ o. ordering_then o (slice_cmp nat_cmp (x ∷ []) (map op_code q ++ 0 ∷ y ∷ []))) (sym (below_two 0 j (omega arith)))
path_is (Deref ∷ p) [] x y = refl
path_is (Off i ∷ p) [] x y = ap (λ o. ordering_then o (slice_cmp nat_cmp (map op_code p ++ 0 ∷ x ∷ []) (y ∷ []))) (sym (above_two 0 i (omega arith)))
path_is (o ∷ p) (n ∷ q) x y =
    then_assoc (ops.cmp-value.it o n) (slice_cmp ops.cmp-value.it p q) (nat_cmp x y)
    ∙ ap₂ ordering_then (op_is o n) (path_is p q x y)

expr_is : (a b : Base) (p q : List Op) (x y : Effect) →
    ordering_then (ordering_then (bases.cmp-value.it a b) (slice_cmp ops.cmp-value.it p q)) (effects.cmp-value.it x y)
    ≡ slice_cmp nat_cmp (base_code a ++ (map op_code p ++ 0 ∷ effect_code x ∷ [])) (base_code b ++ (map op_code q ++ 0 ∷ effect_code y ∷ []))
expr_is (Reg m) (Reg n) p q x y =
    then_assoc (nat_cmp m n) (slice_cmp ops.cmp-value.it p q) (effects.cmp-value.it x y)
    ∙ ap (λ o. ordering_then (nat_cmp m n) (ordering_then (slice_cmp ops.cmp-value.it p q) o)) (effect_is x y)
    ∙ ap (ordering_then (nat_cmp m n)) (path_is p q (effect_code x) (effect_code y))
expr_is (Reg m) (Global n) p q x y = refl
expr_is (Global m) (Reg n) p q x y = refl
expr_is (Global m) (Global n) p q x y =
    then_assoc (nat_cmp m n) (slice_cmp ops.cmp-value.it p q) (effects.cmp-value.it x y)
    ∙ ap (λ o. ordering_then (nat_cmp m n) (ordering_then (slice_cmp ops.cmp-value.it p q) o)) (effect_is x y)
    ∙ ap (ordering_then (nat_cmp m n)) (path_is p q (effect_code x) (effect_code y))

before_exprs : (n : ℕ) (b : Base) (front rest : List ℕ) → n < 2 → slice_cmp nat_cmp (n ∷ front) (base_code b ++ rest) ≡ Less
before_exprs n (Reg r) front rest lt = ap (λ o. ordering_then o (slice_cmp nat_cmp front (r ∷ rest))) (below_two n 0 lt)
before_exprs n (Global g) front rest lt = ap (λ o. ordering_then o (slice_cmp nat_cmp front (g ∷ rest))) (below_two n 1 lt)

behind_others : (n : ℕ) (b : Base) (front rest : List ℕ) → n < 2 → slice_cmp nat_cmp (base_code b ++ rest) (n ∷ front) ≡ Greater
behind_others n (Reg r) front rest lt = ap (λ o. ordering_then o (slice_cmp nat_cmp (r ∷ rest) front)) (above_two n 0 lt)
behind_others n (Global g) front rest lt = ap (λ o. ordering_then o (slice_cmp nat_cmp (g ∷ rest) front)) (above_two n 1 lt)

pub derived_is : (a b : Lock) → locks.cmp-value.it a b ≡ lock_cmp a b
derived_is (lock.Root x) (lock.Root y) = effect_is x y ∙ sym (then_equal (nat_cmp (effect_code x) (effect_code y)))
derived_is (lock.Root x) (lock.Class d y) = refl
derived_is (lock.Root x) (lock.Expr g y) = sym (before_exprs 0 g.base (effect_code x ∷ []) _ (omega arith))
derived_is (lock.Class c x) (lock.Root y) = refl
derived_is (lock.Class c x) (lock.Class d y) =
    ap (ordering_then (nat_cmp c d)) (effect_is x y ∙ sym (then_equal (nat_cmp (effect_code x) (effect_code y))))
derived_is (lock.Class c x) (lock.Expr g y) = sym (before_exprs 1 g.base (c ∷ effect_code x ∷ []) _ (omega arith))
derived_is (lock.Expr f x) (lock.Root y) = sym (behind_others 0 f.base (effect_code y ∷ []) _ (omega arith))
derived_is (lock.Expr f x) (lock.Class d y) = sym (behind_others 1 f.base (d ∷ effect_code y ∷ []) _ (omega arith))
derived_is (lock.Expr f x) (lock.Expr g y) = expr_is f.base g.base f.path g.path x y
