use Rattle.std.proofs.Common.{◌≡◌, ◌≤◌, ◌+◌, length, ap, sym, subst, arith}
use Rattle.asl_explain.specs.declared.explained_value.Lists.{Lists}
use Rattle.asl_explain.specs.Analysed.{AreFittedAt}
use Rattle.asl_explain.proofs.Ends.{length_more}
use Rattle.asl_explain.proofs.Short.{each_fitted_more}
use Rattle.asl_explain.proofs.lists_by_length.add_same.Goals as goal

pub loop-preserved : goal.loop-preserved
loop-preserved c =
    let was = c.loop.invariant in
    let copy : Lists = c.in_ok-same_as.field-0 in
    let grows = c.in_ok-push.ensures.items in
    let first : c.args.first ≤ c.loop.counter = c.loop.auto.counter in
    let more = length_more c.loop.by_length.items copy in
    let long = ap (length {A = Lists}) grows in
    let count = was.count in
    let counted : length c.push.new.self.items ≡ c.loop.counter + 1 = omega (arith, more, long, count) in
    record {
      count = counted;
      each = λ l d from each. each_fitted_more l d c.loop.counter c.loop.by_length.items c.push.new.self.items copy grows was.count
          (subst (AreFittedAt l d c.loop.counter) (sym c.in_ok-same_as.ensures) (from c.loop.counter first)) (was.each l d from each);
    }
