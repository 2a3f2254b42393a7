use Rattle.std.proofs.Common.{ap, length, arith}
use Rattle.asl_lower.specs.declared.section.Section.{Section}
use Rattle.asl_lower.specs.Regions.{Inside}
use Rattle.asl_explain.specs.Lengths.{IsRegionBelow}
use Rattle.asl_explain.proofs.Short.{below_more}
use Rattle.asl_explain.proofs.short_paths.are_sections_below.Goals as goal

pub overflow_cast-number : goal.overflow_cast-number
overflow_cast-number c =
    let few = c.sections-number-end.ensures.kept.layout.limits.few_sections in
    let same = ap (length {A = Section}) c.sections-number-end.ensures.sections in
    let lt = c.loop-number-test.true in
    omega (arith, few, same, lt)

pub loop-number-preserved : goal.loop-number-preserved
loop-number-preserved c =
    below_more {P = λ n. IsRegionBelow c.args.flow.now c.args.limit (Inside n)} c.loop-number.number c.loop-number.invariant (c.is_region_below.ensures c.if-not-is_region_below.false)

pub returns : goal.returns
returns c = λ all n lt.
    let same = ap (length {A = Section}) c.sections-number-end.ensures.sections in
    let past = c.loop-number-test.false in
    c.loop-number.invariant n (omega (arith, same, past, lt))
