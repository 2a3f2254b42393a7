use Rattle.std.proofs.Common.{◌≡◌, ◌-◌, ◌∙◌, List, length, length-drop, ap, refl, arith}
use Rattle.asl_code.specs.declared.image.Function.{Function}
use Rattle.asl_parallel_c.specs.Functions.{functions_from}
use Rattle.asl_parallel_c.proofs.Rows.{all_done}
use Rattle.asl_parallel_c.proofs.Bodies.{function_done}
use Rattle.asl_parallel_c.proofs.functions.put_functions.Goals as goal

pub loop-number-preserved : goal.loop-number-preserved
loop-number-preserved g c = record {
  place =
      let left : length c.split_at.result.1.now ≡ length c.loop-number.rest.now - c.min-len.result = ap length c.split_at.ensures.back ∙ length-drop c.min-len.result c.loop-number.rest.now in
      omega (arith, left, c.min-len.ensures, c.loop-number.invariant.place);
  written = function_done c.args.program.now c.args.options.now _ c.loop-number.text.items c.put_function.new.text.items c.args.functions.now c.loop-number.number _ c.loop-number.place c.min-len.result c.loop-number.rest.now c.split_at.result.0.now c.split_at.result.1.now
      c.loop-number-test.true c.min-len.ensures c.split_at.ensures.front c.split_at.ensures.back c.loop-number.invariant.written c.in_ok-put_function.ensures.written;
}

pub returns-clause-written : goal.returns-clause-written
returns-clause-written g c = all_done (λ (l : List Function). functions_from c.args.program.now c.args.options.now c.loop-number.number l c.loop-number.place c.loop-number.rest.now) (λ (l : List Function). functions_from c.args.program.now c.args.options.now c.loop-number.number l c.loop-number.place c.loop-number.rest.now)
    _ c.loop-number.text.items c.args.functions.now c.loop-number.number c.loop-number-test.false refl c.loop-number.invariant.written
