use Rattle.std.proofs.lemmas.List.Elements.{All-from_recursion}
use Rattle.std.specs.Prelude.{◌<◌, ◌^◌}
use Rattle.asl_code.specs.declared.image.Function.{Function}
use Rattle.asl_loader.specs.Bytes.{function_fields, IsFunction}
use Rattle.asl_loader.proofs.Writes.{none_written, more_at, all_written}
use Rattle.asl_loader.proofs.image_writing.put_each_function.Goals as goal

pub loop-function-init : goal.loop-function-init
loop-function-init c = none_written Function IsFunction function_fields c.args.out.now.items

pub loop-function-preserved : goal.loop-function-preserved
loop-function-preserved c = more_at Function IsFunction function_fields c.args.out.now.items c.loop-function.out.items c.put_function.new.out.items c.args.functions.now c.loop-function.function-index _ c.loop-function-test.true c.loop-function.invariant c.in_ok-put_function.ensures

pub returns : goal.returns
returns c = all_written Function IsFunction function_fields c.args.out.now.items c.loop-function.out.items c.args.functions.now c.loop-function.function-index c.loop-function-test.false c.loop-function.invariant

pub put_function-requires : goal.put_function-requires
put_function-requires c = All-from_recursion (λ (f : Function). f.len < 2 ^ 16) c.args.functions.now c.requires c.loop-function.function-index _ c.loop-function-test.true
