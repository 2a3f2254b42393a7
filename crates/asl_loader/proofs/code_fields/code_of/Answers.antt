use Rattle.std.proofs.Common.{Some}
use Rattle.std.proofs.lemmas.Result.{err_from_is_err_and}
use Rattle.asl_code.specs.declared.instr.Instr.{Instr}
use Rattle.asl_loader.specs.SharedFields.{IsKept}
use Rattle.asl_loader.specs.ImageFields.{items_at, instr_at}
use Rattle.asl_loader.proofs.Loop.{kept_first, kept_more, kept_all, kept_ends}
use Rattle.asl_loader.proofs.code_fields.code_of.Goals as goal

pub loop-init : goal.loop-init
loop-init c = kept_first Instr instr_at (IsKept (Some c.new.result)) c.args.count c.args.bytes.now c.new.ensures

pub returns-in_err-instr : goal.returns-in_err-instr
returns-in_err-instr c =
    let p = err_from_is_err_and c.from_residual.result c.from_residual.ensures.1 in
    rw (p.1, p.2) (kept_ends Instr instr_at c.in_err-instr.field-0.0 (IsKept c.loop.code) c.args.count c.loop.counter c.loop.rest.now (items_at instr_at c.args.count c.args.bytes.now) c.loop.invariant c.loop-test.true c.in_err-instr.ensures)

pub loop-preserved : goal.loop-preserved
loop-preserved c = kept_more Instr instr_at (IsKept c.loop.code) (IsKept c.with_item-code.result) c.args.count c.loop.counter c.loop.rest.now c.in_ok-instr.instr c.in_ok-instr.after.now (items_at instr_at c.args.count c.args.bytes.now) c.loop.invariant c.loop-test.true c.in_ok-instr.ensures c.with_item-code.ensures

pub returns : goal.returns
returns c = kept_all Instr instr_at (IsKept c.loop.code) c.args.count c.loop.counter c.loop.rest.now (items_at instr_at c.args.count c.args.bytes.now) c.loop.invariant c.loop-test.false
