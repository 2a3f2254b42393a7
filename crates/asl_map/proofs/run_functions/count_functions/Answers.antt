use Rattle.std.proofs.Common.{length, ap, arith}
use Rattle.asl_map.proofs.run_functions.count_functions.Goals as goal

pub returns-clause-few : goal.returns-clause-few
returns-clause-few c =
    omega (arith, c.functions.ensures.kept.layout.limits.few_functions, ap length c.functions.ensures.functions)
