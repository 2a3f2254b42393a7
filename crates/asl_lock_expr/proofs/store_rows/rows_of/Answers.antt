use Rattle.std.proofs.Common.{ℕ, length, refl, ap, ◌∙◌, subst, arith}
use Rattle.asl_lower.proofs.Owner.{owner_is}
use Rattle.asl_points_to.proofs.BodyFacts.{body_at, start_of_all}
use Rattle.asl_lock_expr.specs.Storing.{stored_class, called, AreListed}
use Rattle.asl_lock_expr.proofs.Storings.{rows_none}
use Rattle.asl_lock_expr.proofs.store_rows.rows_of.Goals as goal

pub loop-number-init : goal.loop-number-init
loop-number-init c =
    let l = c.args.lowering.now in
    record {
      here = refl;
      stores = rows_none (stored_class c.args.classes.now) l c.new.result.items c.new.ensures.items;
      calls = rows_none (λ _. called) l c.new-2.result.items c.new-2.ensures.items;
      few = omega (arith, ap length c.new.ensures.items);
    }

pub overflow_add-end : goal.overflow_add-end
overflow_add-end c =
    let f = c.functions-function-items in
    let b = body_at c.args.lowering.now f.result.now c.loop-number.number (record { params = 0; regs = 0; len = 0 }) f.ensures.kept f.ensures.functions c.loop-number-test.true in
    omega (arith, b.within, b.size, c.loop-number.invariant.here)

pub overflow_cast-number : goal.overflow_cast-number
overflow_cast-number c =
    let f = c.functions-function-items in
    let b = body_at c.args.lowering.now f.result.now c.loop-number.number (record { params = 0; regs = 0; len = 0 }) f.ensures.kept f.ensures.functions c.loop-number-test.true in
    omega (arith, b.number)

pub add_body-requires-clause-there : goal.add_body-requires-clause-there
add_body-requires-clause-there c =
    let f = c.functions-function-items in
    let b = body_at c.args.lowering.now f.result.now c.loop-number.number (record { params = 0; regs = 0; len = 0 }) f.ensures.kept f.ensures.functions c.loop-number-test.true in
    omega (arith, b.within, c.loop-number.invariant.here)

pub add_body-requires-clause-body : goal.add_body-requires-clause-body
add_body-requires-clause-body c pc low high =
    let f = c.functions-function-items in
    let b = body_at c.args.lowering.now f.result.now c.loop-number.number (record { params = 0; regs = 0; len = 0 }) f.ensures.kept f.ensures.functions c.loop-number-test.true in
    owner_is c.args.lowering.now.functions c.loop-number.number pc _ b.in_table (omega (arith, c.loop-number.invariant.here, low)) (omega (arith, c.loop-number.invariant.here, high))

pub loop-number-preserved : goal.loop-number-preserved
loop-number-preserved c =
    let f = c.functions-function-items in
    let b = body_at c.args.lowering.now f.result.now c.loop-number.number (record { params = 0; regs = 0; len = 0 }) f.ensures.kept f.ensures.functions c.loop-number-test.true in
    let before = c.loop-number.invariant in
    record {
      here = omega (arith, b.next, before.here);
      stores = c.in_ok-add_body.ensures.stores before.stores;
      calls = c.in_ok-add_body.ensures.calls before.calls;
      few = c.in_ok-add_body.ensures.few before.few;
    }

pub returns-clause-stores : goal.returns-clause-stores
returns-clause-stores c =
    let l = c.args.lowering.now in
    let f = c.functions-function-items in
    let P : ℕ → Type 0 = λ n. AreListed (stored_class c.args.classes.now) l n c.loop-number.rows.stores.items in
    subst P (c.loop-number.invariant.here ∙ start_of_all l c.loop-number.number f.ensures.kept (omega (arith, ap length f.ensures.functions, c.loop-number-test.false))) c.loop-number.invariant.stores

pub returns-clause-calls : goal.returns-clause-calls
returns-clause-calls c =
    let l = c.args.lowering.now in
    let f = c.functions-function-items in
    let P : ℕ → Type 0 = λ n. AreListed (λ _. called) l n c.loop-number.rows.callers.items in
    subst P (c.loop-number.invariant.here ∙ start_of_all l c.loop-number.number f.ensures.kept (omega (arith, ap length f.ensures.functions, c.loop-number-test.false))) c.loop-number.invariant.calls
