use Rattle.std.proofs.Common.{ap, length, arith}
use Rattle.asl_code.specs.declared.image.Function.{Function}
use Rattle.asl_lower.specs.Regions.{Body}
use Rattle.asl_explain.specs.Lengths.{IsRegionBelow}
use Rattle.asl_explain.proofs.Short.{below_more}
use Rattle.asl_explain.proofs.short_paths.are_bodies_below.Goals as goal

pub overflow_cast-number : goal.overflow_cast-number
overflow_cast-number c =
    let few = c.functions-number-end.ensures.kept.layout.limits.few_functions in
    let same = ap (length {A = Function}) c.functions-number-end.ensures.functions in
    let lt = c.loop-number-test.true in
    omega (arith, few, same, lt)

pub loop-number-preserved : goal.loop-number-preserved
loop-number-preserved c =
    below_more {P = λ n. IsRegionBelow c.args.flow.now c.args.limit (Body n)} c.loop-number.number c.loop-number.invariant (c.is_region_below.ensures c.if-not-is_region_below.false)

pub returns : goal.returns
returns c = λ all n lt.
    let same = ap (length {A = Function}) c.functions-number-end.ensures.functions in
    let past = c.loop-number-test.false in
    c.loop-number.invariant n (omega (arith, same, past, lt))
