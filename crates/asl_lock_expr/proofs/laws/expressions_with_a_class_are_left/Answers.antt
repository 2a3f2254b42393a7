use Rattle.std.proofs.Common.{◌⊎◌, Bool, true, false, cond, [], ◌∷◌, length, refl, sym, subst, inl, inr}
use Rattle.std.specs.Prelude.{nat_le}
use Rattle.asl_code.specs.declared.lock.Lock.TheVariants as lock
use Rattle.asl_lock_expr.specs.Links.{IsOne, settled}
use Rattle.asl_lock_expr.proofs.laws.expressions_with_a_class_are_left.Goals as goal

pub returns : goal.returns
returns c = λ v e effect x is.
    subst (λ o. IsOne (settled v e effect o) (lock.Expr e effect) ⊎ IsOne (settled v e effect o) (lock.Class x effect)) (sym is)
    (elim (nat_le (length e.path) v.k_limit) as (λ (b : Bool). IsOne (cond b (lock.Expr e effect) (lock.Class x effect) ∷ []) (lock.Expr e effect) ⊎ IsOne (cond b (lock.Expr e effect) (lock.Class x effect) ∷ []) (lock.Class x effect)) [
      | true ↦ inl (inl refl)
      | false ↦ inr (inl refl)
    ])
