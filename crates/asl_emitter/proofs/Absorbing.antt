-- Which lock does in place of another can be told, and absorbing is a strict order: of the locks that absorb one, some are kept.
use Rattle.std.proofs.Common.{◌≡◌, ◌≢◌, ◌<◌, ◌⊎◌, ℕ, zero, suc, true, false, List, [], ◌∷◌, Option, Some, None, refl, ap, sym, ◌∙◌, subst, inl, inr, arith}
use Rattle.std.specs.Prelude.{IsTrue}
use Rattle.std.proofs.lemmas.Bool.Decides.{eqb_tells}
use Rattle.asl_code.specs.declared.value.Effect.{Effect}
use Rattle.asl_code.specs.declared.value.Effect.TheVariants.{Read, Write}
use Rattle.asl_code.specs.declared.lock.Expr.{Expr}
use Rattle.asl_code.specs.declared.lock.Lock.{Lock}
use Rattle.asl_code.specs.declared.lock.Lock.TheVariants as lock
use Rattle.asl_code.specs.contracts.lock.ExprPartialEq.TheImpl as expr_test
use Rattle.asl_code.specs.contracts.lock.LockPartialEq.TheImpl as lock_test
use Rattle.asl_code.proofs.Same.{same_lock, itself_lock}
use Rattle.asl_points_to.specs.Classes.{Classed}
use Rattle.asl_lock_expr.specs.ClassOf.{class_of}
use Rattle.asl_lock_expr.specs.Links.{IsOne}
use Rattle.asl_emitter.specs.Lists.{SufficesFor, Absorbs, Locks, IsReduced}
use Rattle.asl_soundness.specs.Covering.{covers_effect}
use Rattle.asl_emitter.proofs.Same.{same_expr, itself_expr}

tell_expr : (a b : Expr) → (a ≡ b) ⊎ (a ≢ b)
tell_expr a b =
    elim (expr_test.ghosts.eq a b) as (λ t. expr_test.ghosts.eq a b ≡ t → (a ≡ b) ⊎ (a ≢ b)) [
      | true ↦ λ t. inl (same_expr a b t)
      | false ↦ λ t. inr (λ e. (let k : expr_test.ghosts.eq a b ≡ true = subst (λ (x : Expr). expr_test.ghosts.eq a x ≡ true) e (itself_expr a) in cc))
    ] refl

pub tell_lock : (a b : Lock) → (a ≡ b) ⊎ (a ≢ b)
tell_lock a b =
    elim (lock_test.ghosts.eq a b) as (λ t. lock_test.ghosts.eq a b ≡ t → (a ≡ b) ⊎ (a ≢ b)) [
      | true ↦ λ t. inl (same_lock a b t)
      | false ↦ λ t. inr (λ e. (let k : lock_test.ghosts.eq a b ≡ true = subst (λ (x : Lock). lock_test.ghosts.eq a x ≡ true) e (itself_lock a) in cc))
    ] refl

tell_class : (o : Option ℕ) (x : ℕ) → (o ≡ Some x) ⊎ (o ≢ Some x)
tell_class None x = inr (λ e. cc)
tell_class (Some y) x = elim (eqb_tells y x) [ inl h ↦ inl (ap (λ k. Some k) h.1) | inr h ↦ inr (λ e. h.1 (cc)) ]

tell_effect : (a b : Effect) → IsTrue (covers_effect a b) ⊎ (¬ IsTrue (covers_effect a b))
tell_effect Write b = inl refl
tell_effect Read Read = inl refl
tell_effect Read Write = inr (λ e. cc)

tell_both : {A B : Type 0} → A ⊎ (¬ A) → B ⊎ (¬ B) → (A × B) ⊎ (¬ (A × B))
tell_both (inl a) (inl b) = inl (a, b)
tell_both (inl a) (inr n) = inr (λ p. n p.1)
tell_both (inr n) b = inr (λ p. n p.0)

tell_nat : (m n : ℕ) → (m ≡ n) ⊎ (m ≢ n)
tell_nat m n = elim (eqb_tells m n) [ inl y ↦ inl y.1 | inr o ↦ inr o.1 ]

-- whether a lock does in place of another can be told
tell_does : (c : Classed) (f : ℕ) (a b : Lock) → SufficesFor c f a b ⊎ (¬ SufficesFor c f a b)
tell_does c f (lock.Class x e) (lock.Class y g) = tell_both (tell_nat x y) (tell_effect e g)
tell_does c f (lock.Class x e) (lock.Expr b g) = tell_both (tell_class (class_of c f b) x) (tell_effect e g)
tell_does c f (lock.Class x e) (lock.Root g) = inr (λ p. p)
tell_does c f (lock.Expr a e) (lock.Expr b g) = tell_both (tell_expr a b) (tell_effect e g)
tell_does c f (lock.Expr a e) (lock.Class y g) = inr (λ p. p)
tell_does c f (lock.Expr a e) (lock.Root g) = inr (λ p. p)
tell_does c f (lock.Root e) b = inr (λ p. p)

pub effect_trans : (a b d : Effect) → IsTrue (covers_effect a b) → IsTrue (covers_effect b d) → IsTrue (covers_effect a d)
effect_trans Write b d p q = refl
effect_trans Read Read d p q = q
effect_trans Read Write d p q = let f : false ≡ true = p in cc

does_trans : (c : Classed) (f : ℕ) (a b d : Lock) → SufficesFor c f a b → SufficesFor c f b d → SufficesFor c f a d
does_trans c f (lock.Class x e) (lock.Class y g) (lock.Class z h) p q = (p.0 ∙ q.0, effect_trans e g h p.1 q.1)
does_trans c f (lock.Class x e) (lock.Class y g) (lock.Expr b h) p q = (q.0 ∙ ap (λ k. Some k) (sym p.0), effect_trans e g h p.1 q.1)
does_trans c f (lock.Class x e) (lock.Class y g) (lock.Root h) p q = absurd q
does_trans c f (lock.Class x e) (lock.Expr b g) (lock.Expr d h) p q = (ap (class_of c f) (sym q.0) ∙ p.0, effect_trans e g h p.1 q.1)
does_trans c f (lock.Class x e) (lock.Expr b g) (lock.Class d h) p q = absurd q
does_trans c f (lock.Class x e) (lock.Expr b g) (lock.Root h) p q = absurd q
does_trans c f (lock.Class x e) (lock.Root g) d p q = absurd p
does_trans c f (lock.Expr a e) (lock.Expr b g) (lock.Expr d h) p q = (p.0 ∙ q.0, effect_trans e g h p.1 q.1)
does_trans c f (lock.Expr a e) (lock.Expr b g) (lock.Class d h) p q = absurd q
does_trans c f (lock.Expr a e) (lock.Expr b g) (lock.Root h) p q = absurd q
does_trans c f (lock.Expr a e) (lock.Class b g) d p q = absurd p
does_trans c f (lock.Expr a e) (lock.Root g) d p q = absurd p
does_trans c f (lock.Root e) b d p q = absurd p

-- how far a lock is from those that nothing absorbs
pub rank : Lock → ℕ
rank (lock.Root effect) = 0
rank (lock.Class class Write) = 0
rank (lock.Class class Read) = 1
rank (lock.Expr e Write) = 1
rank (lock.Expr e Read) = 2

pub absorbs_down : (c : Classed) (f : ℕ) (a b : Lock) → Absorbs c f a b → rank a < rank b
unfolding rank
absorbs_down c f (lock.Class x Write) (lock.Class y Write) p = absurd (p.different (ap (λ k. lock.Class k Write) p.does.0))
absorbs_down c f (lock.Class x Read) (lock.Class y Read) p = absurd (p.different (ap (λ k. lock.Class k Read) p.does.0))
absorbs_down c f (lock.Class x Write) (lock.Class y Read) p = omega arith
absorbs_down c f (lock.Class x Read) (lock.Class y Write) p = let k : false ≡ true = p.does.1 in cc
absorbs_down c f (lock.Class x Write) (lock.Expr b Write) p = omega arith
absorbs_down c f (lock.Class x Write) (lock.Expr b Read) p = omega arith
absorbs_down c f (lock.Class x Read) (lock.Expr b Write) p = let k : false ≡ true = p.does.1 in cc
absorbs_down c f (lock.Class x Read) (lock.Expr b Read) p = omega arith
absorbs_down c f (lock.Expr a Write) (lock.Expr b Write) p = absurd (p.different (ap (λ k. lock.Expr k Write) p.does.0))
absorbs_down c f (lock.Expr a Read) (lock.Expr b Read) p = absurd (p.different (ap (λ k. lock.Expr k Read) p.does.0))
absorbs_down c f (lock.Expr a Write) (lock.Expr b Read) p = omega arith
absorbs_down c f (lock.Expr a Read) (lock.Expr b Write) p = let k : false ≡ true = p.does.1 in cc
absorbs_down c f a b p = absurd p.does

pub never_itself : (c : Classed) (f : ℕ) (a : Lock) → ¬ Absorbs c f a a
never_itself c f a p = p.different refl

pub absorbs_trans : (c : Classed) (f : ℕ) (a b d : Lock) → Absorbs c f a b → Absorbs c f b d → Absorbs c f a d
absorbs_trans c f a b d p q =
    let up = absorbs_down c f a b p in
    let down = absorbs_down c f b d q in
    record { different = λ e. (let same : rank a ≡ rank d = ap rank e in omega (arith, up, down, same)); does = does_trans c f a b d p.does q.does }

-- the first lock is the second, or does in its place
abbrev pub IsOver : Classed → ℕ → Lock → Lock → Type 0
IsOver c f m a = (m ≡ a) ⊎ SufficesFor c f m a

find_for : (c : Classed) (f : ℕ) (list : List Lock) (a : Lock) → ((m : Lock) × IsOne list m × SufficesFor c f m a) ⊎ ((m : Lock) → IsOne list m → ¬ SufficesFor c f m a)
find_for c f [] a = inr (λ m o. absurd o)
find_for c f (n ∷ list) a =
    elim (tell_does c f n a) [
      | inl d ↦ inl (n, inl refl, d)
      | inr fails ↦ elim (find_for c f list a) [
        | inl r ↦ inl (r.0, inr r.1, r.2)
        | inr none ↦ inr (λ m o. elim o [ inl is ↦ λ d. fails (subst (λ k. SufficesFor c f k a) (sym is) d) | inr rest ↦ none m rest ])
      ]
    ]

over_does : (c : Classed) (f : ℕ) (m b a : Lock) → IsOver c f m b → SufficesFor c f b a → SufficesFor c f m a
over_does c f m b a (inl is) d = subst (λ k. SufficesFor c f k a) (sym is) d
over_does c f m b a (inr k) d = does_trans c f m b a k d

pub over_trans : (c : Classed) (f : ℕ) (m b a : Lock) → IsOver c f m b → IsOver c f b a → IsOver c f m a
over_trans c f m b a o (inl is) = subst (IsOver c f m) is o
over_trans c f m b a o (inr d) = inr (over_does c f m b a o d)

-- a reduced list has, for each lock of the set, that lock or one that does in its place
reduced_by : (c : Classed) (f : ℕ) (given : Locks) (list : List Lock) → IsReduced c f given list → (n : ℕ) (a : Lock) → rank a < n → given a → (m : Lock) × IsOne list m × IsOver c f m a
reduced_by c f given list r zero a lt g = absurd (omega arith)
reduced_by c f given list r (suc n) a lt g =
    elim (find_for c f list a) [
      | inl found ↦ (found.0, found.1, inr found.2)
      | inr none ↦ (
        a,
        r.all a g (λ b h absorbs.
            let down = absorbs_down c f b a absorbs in
            let over = reduced_by c f given list r n b (omega (arith, down, lt)) h in
            none over.0 over.1 (over_does c f over.0 b a over.2 absorbs.does)),
        inl refl,
      )
    ]

pub reduced_covers : (c : Classed) (f : ℕ) (given : Locks) (list : List Lock) → IsReduced c f given list → (a : Lock) → given a → (m : Lock) × IsOne list m × IsOver c f m a
reduced_covers c f given list r a g = reduced_by c f given list r (suc (rank a)) a (omega arith) g

-- so each lock of the set is kept, or absorbed by one that is kept
pub kept_or_absorbed : (c : Classed) (f : ℕ) (given : Locks) (list : List Lock) → IsReduced c f given list → (a : Lock) → given a →
    IsOne list a ⊎ ((m : Lock) × IsOne list m × Absorbs c f m a)
kept_or_absorbed c f given list r a g =
    let over = reduced_covers c f given list r a g in
    elim (tell_lock over.0 a) [
      | inl e ↦ inl (subst (IsOne list) e over.1)
      | inr apart ↦ inr (over.0, over.1, record { different = apart; does = elim over.2 [ inl e ↦ absurd (apart e) | inr d ↦ d ] })
    ]
