-- Locks that the derived test finds equal are one lock, and each is equal to itself, for sets of locks that are found by
-- their hash.
use Rattle.std.proofs.Common.{rules, ◌≡◌, ◌&&◌, true, List, [], ◌∷◌, refl, ap₂}
use Rattle.std.proofs.lemmas.Bool.{and_parts}
use lib.Pointwise.{pointwise}
use Rattle.asl_code.specs.declared.value.Effect.{Effect}
use Rattle.asl_code.specs.declared.path.Op.{Op}
use Rattle.asl_code.specs.declared.lock.Base.{Base}
use Rattle.asl_code.specs.declared.lock.Expr.{Expr}
use Rattle.asl_code.specs.declared.lock.Lock.{Lock}
use Rattle.asl_code.specs.declared.lock.Lock.TheVariants as lock
use Rattle.asl_code.specs.contracts.value.EffectPartialEq.TheImpl as effect_test
use Rattle.asl_code.specs.contracts.path.OpPartialEq.TheImpl as op_test
use Rattle.asl_code.specs.contracts.lock.BasePartialEq.TheImpl as base_test
use Rattle.asl_code.specs.contracts.lock.ExprPartialEq.TheImpl as expr_test
use Rattle.asl_code.specs.contracts.lock.LockPartialEq.TheImpl as lock_test

same_effect : (a b : Effect) → effect_test.ghosts.eq a b ≡ true → a ≡ b
same_effect a b h = search (rules, h)

same_op : (a b : Op) → op_test.ghosts.eq a b ≡ true → a ≡ b
same_op a b h = search (rules, h)

same_base : (a b : Base) → base_test.ghosts.eq a b ≡ true → a ≡ b
same_base a b h = search (rules, h)

same_ops : (a b : List Op) → pointwise op_test.ghosts.eq a b ≡ true → a ≡ b
same_ops [] [] h = refl
same_ops [] (b ∷ ys) h = absurd cc
same_ops (a ∷ xs) [] h = absurd cc
same_ops (a ∷ xs) (b ∷ ys) h =
    let parts = and_parts (op_test.ghosts.eq a b) (pointwise op_test.ghosts.eq xs ys) h in
    let here = same_op a b parts.0 in
    λ i. here i ∷ same_ops xs ys parts.1 i

same_expr : (a b : Expr) → expr_test.ghosts.eq a b ≡ true → a ≡ b
same_expr a b h =
    let parts = and_parts (base_test.ghosts.eq a.base b.base) (pointwise op_test.ghosts.eq a.path b.path) h in
    let bases = same_base a.base b.base parts.0 in
    let paths = same_ops a.path b.path parts.1 in
    λ i. record { base = bases i; path = paths i }

pub same_lock : (a b : Lock) → lock_test.ghosts.eq a b ≡ true → a ≡ b
same_lock (lock.Root x) (lock.Root y) h = let e = same_effect x y h in λ i. lock.Root (e i)
same_lock (lock.Root x) (lock.Class b y) h = search (rules, h)
same_lock (lock.Root x) (lock.Expr b y) h = search (rules, h)
same_lock (lock.Class a x) (lock.Root y) h = search (rules, h)
same_lock (lock.Class a x) (lock.Class b y) h = search (rules, h)
same_lock (lock.Class a x) (lock.Expr b y) h = search (rules, h)
same_lock (lock.Expr a x) (lock.Root y) h = search (rules, h)
same_lock (lock.Expr a x) (lock.Class b y) h = search (rules, h)
same_lock (lock.Expr a x) (lock.Expr b y) h =
    let parts = and_parts (expr_test.ghosts.eq a b) (effect_test.ghosts.eq x y) h in
    let exprs = same_expr a b parts.0 in
    let effects = same_effect x y parts.1 in
    λ i. lock.Expr (exprs i) (effects i)

itself_op : (a : Op) → op_test.ghosts.eq a a ≡ true
itself_op a = search rules

itself_ops : (a : List Op) → pointwise op_test.ghosts.eq a a ≡ true
itself_ops [] = refl
itself_ops (a ∷ xs) = ap₂ (λ x y. x && y) (itself_op a) (itself_ops xs)

itself_base : (a : Base) → base_test.ghosts.eq a a ≡ true
itself_base a = search rules

itself_effect : (a : Effect) → effect_test.ghosts.eq a a ≡ true
itself_effect a = search rules

pub itself_lock : (a : Lock) → lock_test.ghosts.eq a a ≡ true
itself_lock (lock.Root x) = itself_effect x
itself_lock (lock.Class a x) = search (rules, itself_effect)
itself_lock (lock.Expr a x) = ap₂ (λ e f. e && f) (ap₂ (λ b p. b && p) (itself_base a.base) (itself_ops a.path)) (itself_effect x)
