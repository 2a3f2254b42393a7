-- A fitted list covers each lock of the set that it is for.
use Rattle.std.proofs.Common.{◌≡◌, ℕ, List, [], ◌∷◌, Some, refl, ap, sym, ◌∙◌, subst, inl, inr}
use Rattle.std.specs.Prelude.{IsTrue}
use Rattle.asl_code.specs.Locks.{effect_of}
use Rattle.asl_code.specs.declared.value.Effect.{Effect}
use Rattle.asl_code.specs.declared.value.Effect.TheVariants.{Read, Write}
use Rattle.asl_code.specs.declared.lock.Lock.{Lock}
use Rattle.asl_code.specs.declared.lock.Lock.TheVariants as lock
use Rattle.asl_points_to.specs.Classes.{Classed}
use Rattle.asl_lock_expr.specs.ClassOf.{class_of}
use Rattle.asl_lock_expr.specs.Links.{IsOne, class_lock}
use Rattle.asl_soundness.specs.Covering.{covers_effect, CoversLock}
use Rattle.asl_emitter.specs.Lists.{SufficesFor, Locks, as_class, AsClasses, stronger, strongest, IsFitted, HasClass}
use Rattle.asl_emitter.proofs.Absorbing.{IsOver, effect_trans, over_trans, reduced_covers}

effect_refl : (e : Effect) → IsTrue (covers_effect e e)
effect_refl Read = refl
effect_refl Write = refl

over_root : (c : Classed) (f : ℕ) (m a : Lock) → IsOver c f m a → IsTrue (covers_effect (effect_of m) (effect_of a))
over_root c f m a (inl is) = subst (λ k. IsTrue (covers_effect (effect_of m) (effect_of k))) is (effect_refl (effect_of m))
over_root c f (lock.Class x e) (lock.Class y g) (inr d) = d.1
over_root c f (lock.Class x e) (lock.Expr b g) (inr d) = d.1
over_root c f (lock.Expr a e) (lock.Expr b g) (inr d) = d.1
over_root c f (lock.Class x e) (lock.Root g) (inr d) = absurd d
over_root c f (lock.Expr a e) (lock.Class x g) (inr d) = absurd d
over_root c f (lock.Expr a e) (lock.Root g) (inr d) = absurd d
over_root c f (lock.Root e) b (inr d) = absurd d

stands_itself : (c : Classed) (f : ℕ) (a : Lock) → CoversLock c f a a
stands_itself c f (lock.Root e) = effect_refl e
stands_itself c f (lock.Class x e) = (refl, effect_refl e)
stands_itself c f (lock.Expr b e) = (refl, effect_refl e)

stands : (c : Classed) (f : ℕ) (m a : Lock) → IsOver c f m a → CoversLock c f m a
stands c f m a (inl is) = subst (CoversLock c f m) is (stands_itself c f m)
stands c f (lock.Class x e) (lock.Class y g) (inr d) = d
stands c f (lock.Class x e) (lock.Expr b g) (inr d) = d
stands c f (lock.Expr a e) (lock.Expr b g) (inr d) = d
stands c f (lock.Class x e) (lock.Root g) (inr d) = absurd d
stands c f (lock.Expr a e) (lock.Class x g) (inr d) = absurd d
stands c f (lock.Expr a e) (lock.Root g) (inr d) = absurd d
stands c f (lock.Root e) b (inr d) = absurd d

-- the class of a lock that is over another is over it too
coarser : (c : Classed) (f : ℕ) (m a : Lock) → IsOver c f m a → HasClass c f a → (n : Lock) × IsOne (as_class c f m) n × IsOver c f n a
coarser c f (lock.Root e) a o k = (lock.Root e, inl refl, o)
coarser c f (lock.Class x e) a o k = (lock.Class x e, inl refl, o)
coarser c f (lock.Expr b e) a (inl is) k =
    let own : HasClass c f (lock.Expr b e) = subst (HasClass c f) (sym is) k in
    (lock.Class own.0 e, subst (λ o. IsOne (class_lock e o) (lock.Class own.0 e)) (sym own.1) (inl refl), inr (subst (SufficesFor c f (lock.Class own.0 e)) is (own.1, effect_refl e)))
coarser c f (lock.Expr b e) (lock.Expr d g) (inr o) k =
    let own : class_of c f b ≡ Some k.0 = ap (class_of c f) o.0 ∙ k.1 in
    (lock.Class k.0 e, subst (λ x. IsOne (class_lock e x) (lock.Class k.0 e)) (sym own) (inl refl), inr (k.1, o.1))
coarser c f (lock.Expr b e) (lock.Class x g) (inr o) k = absurd o
coarser c f (lock.Expr b e) (lock.Root g) (inr o) k = absurd o

stronger_left : (a b : Effect) → IsTrue (covers_effect (stronger a b) a)
stronger_left Write b = refl
stronger_left Read Read = refl
stronger_left Read Write = refl

stronger_right : (a b : Effect) → IsTrue (covers_effect (stronger a b) b)
stronger_right Write b = refl
stronger_right Read b = effect_refl b

strongest_is : (list : List Lock) (m : Lock) → IsOne list m → IsTrue (covers_effect (strongest list) (effect_of m))
strongest_is [] m o = absurd o
strongest_is (n ∷ list) m (inl is) = subst (λ k. IsTrue (covers_effect (strongest (n ∷ list)) (effect_of k))) is (stronger_left (effect_of n) (strongest list))
strongest_is (n ∷ list) m (inr o) = effect_trans _ _ _ (stronger_right (effect_of n) (strongest list)) (strongest_is list m o)

-- a fitted list has, for each lock of the set that has a class, one that covers it
pub fitted_covers : (c : Classed) (f most : ℕ) (given : Locks) (list : List Lock) → IsFitted c f most given list → (a : Lock) → given a → HasClass c f a → (m : Lock) × IsOne list m × CoversLock c f m a
fitted_covers c f most given list fit a g k =
    let first = reduced_covers c f given fit.fine fit.reduced a g in
    elim fit.is [
      | inl few ↦ (first.0, subst (λ xs. IsOne xs first.0) (sym few.1) first.1, stands c f first.0 a first.2)
      | inr many ↦
          let coarse = coarser c f first.0 a first.2 k in
          let second = reduced_covers c f (AsClasses c f fit.fine) many.1.coarse many.1.reduced coarse.0 (first.0, first.1, coarse.1) in
          let over = over_trans c f second.0 coarse.0 a second.2 coarse.2 in
          elim many.1.is [
            | inl few ↦ (second.0, subst (λ xs. IsOne xs second.0) (sym few.1) second.1, stands c f second.0 a over)
            | inr root ↦ (
              lock.Root (strongest many.1.coarse),
              subst (λ xs. IsOne xs (lock.Root (strongest many.1.coarse))) (sym root.1) (inl refl),
              effect_trans _ _ _ (strongest_is many.1.coarse second.0 second.1) (over_root c f second.0 a over),
            )
          ]
    ]
