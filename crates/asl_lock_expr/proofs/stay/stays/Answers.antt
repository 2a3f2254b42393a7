use Rattle.std.proofs.Common.{◌≡◌, ◌∷◌, [], sym, subst}
use Rattle.asl_code.specs.declared.lock.Lock.{Lock}
use Rattle.asl_lock_expr.specs.Links.{IsSettled, link}
use Rattle.asl_lock_expr.specs.LinksView.{seen}
use Rattle.asl_lock_expr.proofs.Staying.{link_stays, same_before}
use Rattle.asl_lock_expr.proofs.stay.stays.Goals as goal

pub returns-then-is_settled-clause-stays : goal.returns-then-is_settled-clause-stays
returns-then-is_settled-clause-stays c untouched =
    subst (λ (l : Lock). link (seen c.args.view.now) c.args.instr.now l ≡ l ∷ []) (sym c.in-Expr.is)
    (link_stays (seen c.args.view.now) c.args.instr.now c.in-Expr.expr c.in-Expr.field-1 ((c.is_settled.ensures c.in-Expr.field-1).0 c.if-is_settled.true) ((c.is_untouched.ensures c.in-Expr.field-1).0 untouched))

pub returns-then-is_settled-clause-untouched : goal.returns-then-is_settled-clause-untouched
returns-then-is_settled-clause-untouched c e effect is settled same =
    (c.is_untouched.ensures c.in-Expr.field-1).1
    (same_before (seen c.args.view.now) c.args.instr.now c.args.lock.now e c.in-Expr.expr effect c.in-Expr.field-1 is c.in-Expr.is same)

pub returns-else-is_settled-clause-untouched : goal.returns-else-is_settled-clause-untouched
returns-else-is_settled-clause-untouched c e effect is settled same =
    (c.is_settled.ensures c.in-Expr.field-1).1 (subst (λ (l : Lock). IsSettled (seen c.args.view.now) l) c.in-Expr.is settled)
