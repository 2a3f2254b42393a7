use Rattle.std.proofs.Common.{ℕ, Some}
use Rattle.std.proofs.lemmas.Result.{err_from_is_err_and}
use Rattle.std.specs.Int.{w16}
use Rattle.asl_loader.specs.SharedFields.{IsKept, number_at}
use Rattle.asl_loader.specs.ImageFields.{items_at}
use Rattle.asl_loader.proofs.Loop.{kept_first, kept_more, kept_all, kept_ends}
use Rattle.asl_loader.proofs.code_fields.classes_of.Goals as goal

pub loop-init : goal.loop-init
loop-init c = kept_first ℕ (number_at w16) (IsKept (Some c.new.result)) c.args.count c.args.bytes.now c.new.ensures

pub returns-in_err-class : goal.returns-in_err-class
returns-in_err-class c =
    let p = err_from_is_err_and c.from_residual.result c.from_residual.ensures.1 in
    rw (p.1, p.2) (kept_ends ℕ (number_at w16) c.in_err-class.field-0.0 (IsKept c.loop.classes) c.args.count c.loop.counter c.loop.rest.now (items_at (number_at w16) c.args.count c.args.bytes.now) c.loop.invariant c.loop-test.true c.in_err-class.ensures)

pub loop-preserved : goal.loop-preserved
loop-preserved c = kept_more ℕ (number_at w16) (IsKept c.loop.classes) (IsKept c.with_item-classes.result) c.args.count c.loop.counter c.loop.rest.now c.in_ok-class.class c.in_ok-class.after.now (items_at (number_at w16) c.args.count c.args.bytes.now) c.loop.invariant c.loop-test.true c.in_ok-class.ensures c.with_item-classes.ensures

pub returns : goal.returns
returns c = kept_all ℕ (number_at w16) (IsKept c.loop.classes) c.args.count c.loop.counter c.loop.rest.now (items_at (number_at w16) c.args.count c.args.bytes.now) c.loop.invariant c.loop-test.false
