use Rattle.std.proofs.Common.{◌≡◌, ◌+◌, length, ◌∷◌, [], ap, ◌∙◌, arith, length-append}
use Rattle.asl_lock_expr.specs.Storing.{row}
use Rattle.asl_lock_expr.proofs.RowNumbers.{row_push}
use Rattle.asl_lock_expr.proofs.store_rows.grow.Goals as goal

pub loop-preserved : goal.loop-preserved
loop-preserved c =
    let longer : length c.push.new.self.items ≡ length c.loop.rows.items + 1 = ap length c.in_ok-push.ensures.items ∙ length-append c.loop.rows.items (c.new.result ∷ []) in
    record {
      rows = λ a. ap (λ rows. row rows a) c.in_ok-push.ensures.items ∙ row_push c.loop.rows.items _ a c.new.ensures ∙ c.loop.invariant.rows a;
      many = omega (arith, longer, c.loop.invariant.many);
      few = λ h. omega (arith, longer, c.requires, c.loop.invariant.many);
    }
