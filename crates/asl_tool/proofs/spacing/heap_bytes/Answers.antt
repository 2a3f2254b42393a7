use Rattle.std.proofs.Common.{◌≡◌, ◌+◌, ◌*◌, suc, drop, ap, subst, ◌∙◌, arith}
use Rattle.std.specs.Prelude.{unwrap_or}
use Rattle.asl_machine.specs.State.{size_of}
use Rattle.asl_tool.specs.Spacing.{heap_bytes}
use Rattle.asl_tool.proofs.HeapBytes.{bytes_next, few_cells}
use Rattle.asl_tool.proofs.spacing.heap_bytes.Goals as goal

pub loop-object-preserved : goal.loop-object-preserved
loop-object-preserved c =
    let objects = c.args.machine.now.state.objects in
    let count = c.objects-object-end.ensures.count in
    let below = c.loop-object-test.true in
    let i = c.loop-object.object in
    let next : heap_bytes (drop i objects) ≡ 48 + unwrap_or (size_of objects i) 0 * 8 + heap_bytes (drop (i + 1) objects) =
    subst (λ n. heap_bytes (drop i objects) ≡ 48 + unwrap_or (size_of objects i) 0 * 8 + heap_bytes (drop n objects)) (let one : suc i ≡ i + 1 = omega arith in one)
    (bytes_next objects i (omega (arith, count, below))) in
    let cells : c.from-cells.result ≡ unwrap_or (size_of objects c.loop-object.object) 0 = c.from-cells.ensures ∙ c.unwrap_or.ensures ∙ ap (λ o. unwrap_or o 0) c.size.ensures.size in
    let few = few_cells c.size.result c.size.ensures.few in
    let given = c.from-cells.ensures ∙ c.unwrap_or.ensures in
    let before = c.loop-object.invariant in
    record {
      so_far = omega (arith, next, cells, before.so_far);
      few = omega (arith, given, few, before.few);
    }
