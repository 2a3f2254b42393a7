use Rattle.std.proofs.Common.{◌≡◌, ◌+◌, ℕ, List, ◌<◌, Some, length, slice_get, sym, ap, ◌∙◌, subst, arith}
use Rattle.std.proofs.lemmas.List.{length_push}
use Rattle.asl_lower.specs.OpenSections.{returned}
use Rattle.asl_points_to.proofs.BodyFacts.{body_at, returned_at, registers_more}
use Rattle.asl_points_to.proofs.value_flows.returned_registers.Goals as goal

pub overflow_add-end : goal.overflow_add-end
overflow_add-end c =
    let f = c.functions-function-items in
    let b = body_at c.args.lowering.now f.result.now c.loop-function.function-index (record { params = 0; regs = 0; len = 0 }) f.ensures.kept f.ensures.functions c.loop-function-test.true in
    omega (arith, b.within, b.size, c.loop-function.invariant.end)

pub loop-function-preserved : goal.loop-function-preserved
loop-function-preserved c =
    let l = c.args.lowering.now in
    let f = c.functions-function-items in
    let i = c.loop-function.invariant in
    let b = body_at l f.result.now c.loop-function.function-index (record { params = 0; regs = 0; len = 0 }) f.ensures.kept f.ensures.functions c.loop-function-test.true in
    let Now : List ℕ → Type 0 = λ xs. (g : ℕ) → g < c.loop-function.function-index + 1 → slice_get xs g ≡ Some (returned l g) in
    record {
      end = omega (arith, b.next, i.end);
      len = ap length c.in_ok-push.ensures.items ∙ length_push c.loop-function.registers.items c.returned_before.result ∙ ap (λ (n : ℕ). n + 1) i.len;
      registers = subst Now (sym c.in_ok-push.ensures.items) (registers_more l c.loop-function.registers.items c.loop-function.function-index c.returned_before.result i.len i.registers
          (returned_at l c.loop-function.function-index _ c.returned_before.result _ c.code-code.result.now b c.code-code.ensures.code (omega (arith, i.end)) c.returned_before.ensures));
    }
