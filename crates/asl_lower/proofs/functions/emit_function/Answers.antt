use Rattle.std.proofs.Common.{arith}
use Rattle.asl_syntax.specs.View.{function_of}
use Rattle.asl_lower.proofs.Listed.{few_parameters}
use Rattle.asl_lower.proofs.functions.emit_function.Goals as goal

pub overflow_cast-params : goal.overflow_cast-params
overflow_cast-params c =
    omega (arith, few_parameters (function_of c.args.function.now) c.requires.few_registers, c.args.function.now.parameters.ok.0)
