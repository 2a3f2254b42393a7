use Rattle.std.proofs.Common.{◌≡◌, ◌∙◌, ◌+◌, ℕ, ◌++◌, ◌∷◌, [], ap}
use Rattle.std.proofs.lemmas.List.{length_push}
use Rattle.std.proofs.lemmas.Result.{err_from_is_err_and}
use Rattle.asl_code.specs.declared.path.Op.{Op}
use Rattle.asl_loader.specs.ImageFields.{items_at, op_at}
use Rattle.asl_loader.proofs.Loop.{goes_on, ends, is_done}
use Rattle.asl_loader.proofs.lock_fields.ops_of.Goals as goal

pub returns-in_err-op : goal.returns-in_err-op
returns-in_err-op c =
    let p = err_from_is_err_and c.from_residual.result c.from_residual.ensures.1 in
    rw (p.1, p.2) (ends Op op_at c.in_err-op.field-0.0 c.loop.path c.args.count c.loop.counter c.loop.rest.now (items_at op_at c.args.count c.args.bytes.now) c.loop-test.true c.in_err-op.ensures c.loop.invariant.so_far)

pub returns : goal.returns
returns c = is_done Op op_at c.loop.path c.args.count c.loop.counter c.loop.rest.now (items_at op_at c.args.count c.args.bytes.now) c.loop-test.false c.loop.invariant.so_far

pub loop-preserved : goal.loop-preserved
loop-preserved c =
    let e : c.push.new.self ≡ c.loop.path ++ c.in_ok-op.op ∷ [] = c.push.ensures in
    record {
      so_far = rw e (goes_on Op op_at c.loop.path c.args.count c.loop.counter c.loop.rest.now c.in_ok-op.op c.in_ok-op.after.now (items_at op_at c.args.count c.args.bytes.now) c.loop-test.true c.in_ok-op.ensures c.loop.invariant.so_far);
      len = rw e (length_push c.loop.path c.in_ok-op.op ∙ ap (λ (n : ℕ). n + 1) c.loop.invariant.len);
    }
