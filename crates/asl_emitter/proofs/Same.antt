-- Expressions that the derived test finds equal are one, and each is equal to itself.
use Rattle.std.proofs.Common.{◌≡◌, ◌&&◌, true, ap}
use Rattle.std.proofs.lemmas.Bool.{and_parts}
use Rattle.asl_code.specs.declared.value.Effect.TheVariants.{Read}
use Rattle.asl_code.specs.declared.lock.Expr.{Expr}
use Rattle.asl_code.specs.declared.lock.Lock.TheVariants as lock
use Rattle.asl_code.specs.contracts.value.EffectPartialEq.TheImpl as effect_test
use Rattle.asl_code.specs.contracts.lock.ExprPartialEq.TheImpl as expr_test
use Rattle.asl_code.proofs.Same.{same_lock, itself_lock}

pub same_expr : (a b : Expr) → expr_test.ghosts.eq a b ≡ true → a ≡ b
same_expr a b h =
    let same : lock.Expr a Read ≡ lock.Expr b Read = same_lock (lock.Expr a Read) (lock.Expr b Read) (ap (λ x. x && effect_test.ghosts.eq Read Read) h) in
    cc

pub itself_expr : (a : Expr) → expr_test.ghosts.eq a a ≡ true
itself_expr a = (and_parts (expr_test.ghosts.eq a a) (effect_test.ghosts.eq Read Read) (itself_lock (lock.Expr a Read))).0
