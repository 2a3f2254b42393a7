use Rattle.std.proofs.Common.{length, ap, arith}
use Rattle.asl_code.specs.declared.image.Function as entry
use Rattle.asl_lower.specs.LegalLowering.{lowered_of}
use Rattle.asl_lower.proofs.Told.{owner_found, owner_after, owner_body}
use Rattle.asl_lower.proofs.lowering.Lowering.owner.Goals as goal

pub returns-then-left-function-clause-body : goal.returns-then-left-function-clause-body
returns-then-left-function-clause-body c =
    let l = lowered_of c.self.inside.draft in
    let fs = c.deref-function-items.result.now in
    let x = c.loop-function in
    owner_body l c.args.self.now fs c.args.pc x.number c.self.invariant.layout c.self.view_is c.deref-function-items.ensures.value c.requires
    (owner_found fs x.function-index x.number x.left c.args.pc (record { params = 0; regs = 0; len = 0 }) c.loop-function-test.true c.if-left-function.true x.invariant.owner)

pub overflow_add-number : goal.overflow_add-number
overflow_add-number c =
    let l = lowered_of c.self.inside.draft in
    omega (arith, c.loop-function.invariant.number, c.loop-function-test.true, ap (length {A = entry.Function}) c.deref-function-items.ensures.value, c.self.invariant.layout.limits.few_functions)

pub returns-clause-body : goal.returns-clause-body
returns-clause-body c =
    let l = lowered_of c.self.inside.draft in
    let fs = c.deref-function-items.result.now in
    let x = c.loop-function in
    owner_body l c.args.self.now fs c.args.pc x.number c.self.invariant.layout c.self.view_is c.deref-function-items.ensures.value c.requires
    (owner_after fs x.function-index x.number x.left c.args.pc c.loop-function-test.false x.invariant.owner)
