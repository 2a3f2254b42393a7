use Rattle.std.proofs.Common.{◌≡◌, ◌+◌, ◌≤◌, get_or, ap, sym, ◌∙◌, length, drop, true, arith}
use Rattle.std.proofs.lemmas.Bool.{and_parts}
use Rattle.std.specs.List.{list_all}
use Rattle.asl_code.specs.Bodies.{bodies_from}
use Rattle.asl_code.specs.Verified.{has_range, has_end}
use Rattle.asl_code.specs.declared.image.Function.{Function}
use Rattle.asl_code.proofs.Scanning.{bodies_fail, bodies_pass, functions_more, total_more, end_at}
use Rattle.asl_code.proofs.verify.has_ends.Goals as goal

-- what `get_or` gives past the end
abbrev past : Function
past = record { params = 0; regs = 0; len = 0 }

pub returns-then-not-is_end : goal.returns-then-not-is_end
returns-then-not-is_end c =
    let code = c.as_slice-code.result.now in
    let fs = c.as_slice-function-items.result.now in
    let k = c.loop-function.function-index in
    let f = get_or fs k past in
    let total = total_more fs k past c.loop-function-test.true in
    let range : has_range f ≡ true = (and_parts _ _ (sym (functions_more has_range fs k past c.loop-function-test.true) ∙ c.loop-function.invariant.1)).0 in
    let fits : c.loop-function.first + f.len ≤ length code = omega (arith, c.loop-function.invariant.2) in
    let fails = end_at code c.loop-function.first f _ _ range fits c.is_end.ensures ∙ c.if-not-is_end.true in
    sym (bodies_fail (has_end code) c.loop-function.first fs k past c.loop-function-test.true fails)
    ∙ c.loop-function.invariant.0
    ∙ ap (λ gs. list_all (has_end code) (bodies_from 0 gs)) c.as_slice-function-items.ensures
    ∙ ap (λ is. list_all (has_end is) (bodies_from 0 c.args.image.now.functions)) c.as_slice-code.ensures

pub loop-function-preserved : goal.loop-function-preserved
loop-function-preserved c =
    let code = c.as_slice-code.result.now in
    let fs = c.as_slice-function-items.result.now in
    let k = c.loop-function.function-index in
    let f = get_or fs k past in
    let total = total_more fs k past c.loop-function-test.true in
    let range : (has_range f ≡ true) × (list_all has_range (drop (k + 1) fs) ≡ true) = and_parts _ _ (sym (functions_more has_range fs k past c.loop-function-test.true) ∙ c.loop-function.invariant.1) in
    let fits : c.loop-function.first + f.len ≤ length code = omega (arith, c.loop-function.invariant.2) in
    let passes = end_at code c.loop-function.first f _ _ range.0 fits c.is_end.ensures ∙ c.if-not-is_end.false in
    (bodies_pass (has_end code) c.loop-function.first fs k past c.loop-function-test.true passes ∙ c.loop-function.invariant.0, range.1, omega (arith, c.loop-function.invariant.2))
