use Rattle.std.proofs.Common.{Some}
use Rattle.std.proofs.lemmas.Result.{err_from_is_err_and}
use Rattle.asl_code.specs.declared.image.Function.{Function}
use Rattle.asl_loader.specs.SharedFields.{IsKept}
use Rattle.asl_loader.specs.ImageFields.{items_at, function_at}
use Rattle.asl_loader.proofs.Loop.{kept_first, kept_more, kept_all, kept_ends}
use Rattle.asl_loader.proofs.code_fields.functions_of.Goals as goal

pub loop-init : goal.loop-init
loop-init c = kept_first Function function_at (IsKept (Some c.new.result)) c.args.count c.args.bytes.now c.new.ensures

pub returns-in_err-function : goal.returns-in_err-function
returns-in_err-function c =
    let p = err_from_is_err_and c.from_residual.result c.from_residual.ensures.1 in
    rw (p.1, p.2) (kept_ends Function function_at c.in_err-function.field-0.0 (IsKept c.loop.functions) c.args.count c.loop.counter c.loop.rest.now (items_at function_at c.args.count c.args.bytes.now) c.loop.invariant c.loop-test.true c.in_err-function.ensures)

pub loop-preserved : goal.loop-preserved
loop-preserved c = kept_more Function function_at (IsKept c.loop.functions) (IsKept c.with_item-functions.result) c.args.count c.loop.counter c.loop.rest.now c.in_ok-function.function c.in_ok-function.after.now (items_at function_at c.args.count c.args.bytes.now) c.loop.invariant c.loop-test.true c.in_ok-function.ensures c.with_item-functions.ensures

pub returns : goal.returns
returns c = kept_all Function function_at (IsKept c.loop.functions) c.args.count c.loop.counter c.loop.rest.now (items_at function_at c.args.count c.args.bytes.now) c.loop.invariant c.loop-test.false
