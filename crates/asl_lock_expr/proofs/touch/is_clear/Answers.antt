use Rattle.std.proofs.Common.{rules, ◌≡◌, false, sym, ◌∙◌, subst}
use Rattle.asl_code.specs.declared.lock.Lock.{Lock}
use Rattle.asl_lock_expr.specs.LinksView.{seen}
use Rattle.asl_lock_expr.specs.Touches.{IsClear}
use Rattle.asl_lock_expr.proofs.touch.is_clear.Goals as goal

pub returns-then-not-is_concerned : goal.returns-then-not-is_concerned
returns-then-not-is_concerned c settled =
    let none : c.is_concerned.result ≡ false = search rules in
    subst (λ (l : Lock). IsClear (seen c.args.view.now) c.args.touch l) (sym c.in-Expr.is) ((c.is_settled.ensures c.in-Expr.field-1).0 settled, sym c.is_concerned.ensures ∙ none)
