use Rattle.std.proofs.Common.{refl, subst, List}
use Rattle.std.proofs.lemmas.List.{take_all}
use Rattle.asl_code.specs.declared.image.Function.{Function}
use Rattle.asl_assembler.specs.Text.{Body}
use Rattle.asl_assembler.specs.Canonical.{bodies}
use Rattle.asl_assembler.specs.Writing.{WritesEach, FitsBodyLines, body_text}
use Rattle.asl_assembler.proofs.Writes.{none_written}
use Rattle.asl_assembler.proofs.Bodies.{functions_more, rest_left}
use Rattle.asl_assembler.proofs.disassembly.put_functions.Goals as goal

pub loop-function-init : goal.loop-function-init
loop-function-init c = record { rest = refl; written = none_written Body FitsBodyLines body_text c.args.text.now.items }

pub loop-function-preserved : goal.loop-function-preserved
loop-function-preserved c =
    let fs = c.args.functions.now in
    let i = c.loop-function.function-index in
    let code = c.args.code.now in
    let rest = c.loop-function.rest.now in
    let left = c.loop-function.invariant.rest in
    record {
      rest = rest_left fs i _ code rest c.split_at.result.1.now c.loop-function-test.true left (rw c.min-len.ensures at c.split_at.ensures.back);
      written = functions_more c.args.text.now.items c.loop-function.text.items c.put_function.new.text.items fs i _ code rest c.split_at.result.0.now c.loop-function-test.true left (rw c.min-len.ensures at c.split_at.ensures.front) c.loop-function.invariant.written c.in_ok-put_function.ensures;
    }

pub returns : goal.returns
returns c =
    subst (λ (fs : List Function). WritesEach Body FitsBodyLines body_text c.args.text.now.items c.loop-function.text.items (bodies fs c.args.code.now))
    (take_all c.loop-function.function-index c.args.functions.now c.loop-function-test.false) c.loop-function.invariant.written
