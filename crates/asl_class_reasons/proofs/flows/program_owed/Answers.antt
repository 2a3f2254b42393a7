use Rattle.std.proofs.Common.{ℕ, length, ap, ◌∙◌, subst, arith}
use Rattle.asl_code.specs.declared.instr.Instr.TheVariants as instr
use Rattle.asl_class_reasons.specs.Draft.{AreOwed}
use Rattle.asl_points_to.proofs.BodyFacts.{body_at, stands_in, start_of_all}
use Rattle.asl_class_reasons.proofs.flows.program_owed.Goals as goal

pub overflow_add-end : goal.overflow_add-end
overflow_add-end c =
    let f = c.functions-function-items in
    let b = body_at c.args.lowering.now f.result.now c.loop-number.number (record { params = 0; regs = 0; len = 0 }) f.ensures.kept f.ensures.functions c.loop-number-test.true in
    omega (arith, b.within, b.size, c.loop-number.invariant.start)

pub overflow_cast-number : goal.overflow_cast-number
overflow_cast-number c =
    let f = c.functions-function-items in
    let b = body_at c.args.lowering.now f.result.now c.loop-number.number (record { params = 0; regs = 0; len = 0 }) f.ensures.kept f.ensures.functions c.loop-number-test.true in
    omega (arith, b.number)

pub bounds-code-pc : goal.bounds-code-pc
bounds-code-pc c =
    let f = c.functions-function-items in
    let b = body_at c.args.lowering.now f.result.now c.loop-number.number (record { params = 0; regs = 0; len = 0 }) f.ensures.kept f.ensures.functions c.loop-number-test.true in
    omega (arith, b.within, c.loop-number.invariant.start, ap length c.code-code.ensures.code)

pub push_owed-requires-clause-body : goal.push_owed-requires-clause-body
push_owed-requires-clause-body c =
    let f = c.functions-function-items in
    let b = body_at c.args.lowering.now f.result.now c.loop-number.number (record { params = 0; regs = 0; len = 0 }) f.ensures.kept f.ensures.functions c.loop-number-test.true in
    let s = stands_in c.args.lowering.now c.loop-number.number c.loop-pc.pc _ c.code-code.result.now instr.Release b c.code-code.ensures.code (omega (arith, c.loop-number.invariant.start)) (omega (arith, c.loop-number.invariant.start)) in
    s.3

pub push_owed-requires-clause-there : goal.push_owed-requires-clause-there
push_owed-requires-clause-there c =
    let f = c.functions-function-items in
    let b = body_at c.args.lowering.now f.result.now c.loop-number.number (record { params = 0; regs = 0; len = 0 }) f.ensures.kept f.ensures.functions c.loop-number-test.true in
    let s = stands_in c.args.lowering.now c.loop-number.number c.loop-pc.pc _ c.code-code.result.now _ b c.code-code.ensures.code (omega (arith, c.loop-number.invariant.start)) (omega (arith, c.loop-number.invariant.start)) in
    s.2

pub loop-number-preserved : goal.loop-number-preserved
loop-number-preserved c =
    let f = c.functions-function-items in
    let b = body_at c.args.lowering.now f.result.now c.loop-number.number (record { params = 0; regs = 0; len = 0 }) f.ensures.kept f.ensures.functions c.loop-number-test.true in
    let P : ℕ → Type 0 = λ n. AreOwed c.args.lowering.now n c.loop-pc.owed.items in
    record {
      start = omega (arith, b.next, c.loop-number.invariant.start);
      owed = subst P (omega (arith, c.loop-pc.auto.pc-end (omega arith), c.loop-pc-test.false)) c.loop-pc.invariant;
    }

pub returns : goal.returns
returns c =
    let l = c.args.lowering.now in
    let f = c.functions-function-items in
    let P : ℕ → Type 0 = λ n. AreOwed l n c.loop-number.owed.items in
    subst P (c.loop-number.invariant.start ∙ start_of_all l c.loop-number.number f.ensures.kept (omega (arith, ap length f.ensures.functions))) c.loop-number.invariant.owed
