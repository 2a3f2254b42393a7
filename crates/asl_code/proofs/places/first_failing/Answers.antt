use Rattle.std.proofs.Common.{◌≤◌, ap, sym, ◌∙◌, length, arith}
use Rattle.std.proofs.lemmas.List.{at_drop_all}
use Rattle.asl_code.specs.Rules.{test_of}
use Rattle.asl_code.specs.declared.image.Function.{Function}
use Rattle.asl_code.proofs.Scanning.{first_failing, scan_found, scan_passed, total_more}
use Rattle.asl_code.proofs.Told.{lowest_from_scan}
use Rattle.asl_code.proofs.places.first_failing.Goals as goal

-- what `get_or` gives past the end
abbrev past : Function
past = record { params = 0; regs = 0; len = 0 }

pub returns-in-Some : goal.returns-in-Some
returns-in-Some c =
    let test = test_of c.args.rule c.args.image.now in
    let fs = c.as_slice-function-items.result.now in
    let found = scan_found test c.loop-function.first fs c.loop-function.rest.now c.split_at.result.0.now c.loop-function.function-index past _ c.in-Some.place c.loop-function-test.true c.split_at.ensures.front c.first_in_body.ensures c.in-Some.is in
    lowest_from_scan test c.args.image.now _ c.requires.ranges
    (sym found ∙ c.loop-function.invariant.0 ∙ ap (λ gs. first_failing test 0 gs c.args.image.now.code) c.as_slice-function-items.ensures)

pub returns : goal.returns
returns c =
    let test = test_of c.args.rule c.args.image.now in
    let fs = c.as_slice-function-items.result.now in
    let past_end : length fs ≤ c.loop-function.function-index = omega arith in
    let none = at_drop_all (λ gs. first_failing test c.loop-function.first gs c.loop-function.rest.now) fs c.loop-function.function-index past_end in
    lowest_from_scan test c.args.image.now _ c.requires.ranges
    (sym none ∙ c.loop-function.invariant.0 ∙ ap (λ gs. first_failing test 0 gs c.args.image.now.code) c.as_slice-function-items.ensures)

pub loop-function-preserved : goal.loop-function-preserved
loop-function-preserved c =
    let test = test_of c.args.rule c.args.image.now in
    let fs = c.as_slice-function-items.result.now in
    let k = c.loop-function.function-index in
    let total = total_more fs k past c.loop-function-test.true in
    let passed = scan_passed test c.loop-function.first fs c.loop-function.rest.now c.split_at.result.0.now c.split_at.result.1.now k past _ c.loop-function-test.true c.split_at.ensures.front c.split_at.ensures.back c.split_at.ensures.front_len c.first_in_body.ensures c.in_default.is in
    (passed ∙ c.loop-function.invariant.0, omega (arith, c.split_at.ensures.back_len, c.split_at.ensures.front_len, c.loop-function.invariant.1), omega (arith, c.split_at.ensures.back_len, c.split_at.ensures.front_len, c.loop-function.invariant.2))
