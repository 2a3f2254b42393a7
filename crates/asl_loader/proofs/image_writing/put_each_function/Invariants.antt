use Rattle.std.proofs.Common.{take}
use Rattle.asl_code.specs.declared.image.Function.{Function}
use Rattle.asl_loader.specs.Bytes.{function_fields, IsFunction}
use Rattle.asl_loader.specs.Writing.{WritesEach}
use Rattle.asl_loader.proofs.image_writing.put_each_function.Given as goal

abbrev pub invariant-loop-function : goal.invariant-loop-function
invariant-loop-function l = WritesEach Function IsFunction function_fields l.initial.out.items l.out.items (take l.function-index l.functions)
