use Rattle.std.proofs.Common.{◌≡◌, ◌<◌, length, arith, ap}
use Rattle.std.proofs.lemmas.Grind.{common_steps}
use Rattle.asl_syntax.specs.View.{block_of}
use Rattle.asl_lower.proofs.Numbering.{crowded_parameters}
use Rattle.asl_lower.proofs.functions.locals_of.Goals as goal

pub returns-then-is_full-clause-many : goal.returns-then-is_full-clause-many
returns-then-is_full-clause-many c =
    let f = c.args.function.now in
    let full : length c.loop-parameter.locals.items ≡ 64 = grind (arith, common_steps) in
    let more : c.loop-parameter.parameter-index < length f.parameters.items = omega (arith, ap length c.deref-parameter-items.ensures.value) in
    omega (arith, crowded_parameters c.loop-parameter.locals.items f.parameters.items c.loop-parameter.parameter-index (block_of f.body.items) c.loop-parameter.invariant full more)
