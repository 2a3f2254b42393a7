use Rattle.std.proofs.Common.{rules, ◌≡◌, [], ◌∷◌, ◌++◌, length, ap, subst, arith}
use Rattle.asl_explain.specs.declared.explained_value.Lists.{Lists}
use Rattle.asl_explain.specs.Analysed.{AreFittedAt}
use Rattle.asl_explain.proofs.Ends.{length_more}
use Rattle.asl_explain.proofs.Short.{each_fitted_more}
use Rattle.asl_explain.proofs.lists_by_length.add_lists.Goals as goal

pub returns-then-is_last-clause-each : goal.returns-then-is_last-clause-each
returns-then-is_last-clause-each c =
    let a = c.args.analysis.now in
    c.in_ok-add_same.ensures.each a.lowering a.classes (c.in_ok-lists.ensures.longer c.if-is_last.true) c.loop-k_limit.invariant.each

pub loop-k_limit-preserved : goal.loop-k_limit-preserved
loop-k_limit-preserved c =
    let a = c.args.analysis.now in
    let was = c.loop-k_limit.invariant in
    let k = c.loop-k_limit.k_limit in
    let old = c.loop-k_limit.by_length.items in
    let one : Lists = c.in_ok-lists.lists in
    let grows : c.push.new.self.items ≡ old ++ one ∷ [] = search rules in
    let more = length_more old one in
    let long = ap (length {A = Lists}) grows in
    let count = was.count in
    record {
      count = omega (arith, more, long, count);
      each = each_fitted_more a.lowering a.classes k old c.push.new.self.items one grows was.count
          (subst (AreFittedAt a.lowering a.classes k) c.in_ok-lists.lists-is c.in_ok-lists.ensures.lists) was.each;
    }
