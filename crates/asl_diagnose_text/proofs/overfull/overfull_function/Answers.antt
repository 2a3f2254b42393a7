use Rattle.std.proofs.Common.{ℕ, ◌<◌, List, map, drop, ◌+◌, sym, subst}
use Rattle.asl_syntax.specs.View.{item_of, function_of}
use Rattle.asl_syntax.specs.Tree.{Item, functions_of}
use Rattle.asl_lower.specs.Lowered.{end_of}
use Rattle.asl_diagnose_text.specs.Places.{IsOverfull}
use Rattle.asl_diagnose_text.proofs.Sizes.{one_past, same_past, overfull_here, never_overfull, function_next, global_next, none_left}
use Rattle.asl_diagnose_text.proofs.overfull.overfull_function.Goals as goal
use Rattle.asl_diagnose_text.proofs.overfull.overfull_function.Goals.{in-Function+else-passed-eq0, in-Global}

pub returns-then-passed-eq0 : goal.returns-then-passed-eq0
returns-then-passed-eq0 c =
    let items = c.items-items.result.now in
    let i : ℕ = c.loop-item.item-index in
    let P : List Item → Type 0 = λ t. IsOverfull t c.loop-item.number in
    subst P c.items-items.ensures.items (overfull_here (map item_of items) (functions_of (map item_of (drop i items))) (functions_of (map item_of (drop (i + 1) items))) (function_of c.in-Function.function) c.loop-item.number c.loop-item.passed c.past_function-passed.result c.loop-item.invariant
    (function_next items i c.item-item.result c.in-Function.function c.loop-item-test.true c.item-item.is c.in-Function.is) c.past_function-passed.ensures.is c.if-passed-eq0.true)

pub loop-item-preserved : goal.loop-item-preserved
loop-item-preserved c =
    let items = c.items-items.result.now in
    let i : ℕ = c.loop-item.item-index in
    elim c.match-item.branch [
      | in-Function+else-passed-eq0 w ↦
          one_past (functions_of (map item_of items)) (functions_of (map item_of (drop i items))) (functions_of (map item_of (drop (i + 1) items))) (function_of w.in-Function.function) c.loop-item.number c.match-item.number c.loop-item.passed w.past_function-passed.result c.match-item.passed c.loop-item.invariant
          (function_next items i c.item-item.result w.in-Function.function c.loop-item-test.true c.item-item.is w.in-Function.is) w.number-is w.passed-is w.past_function-passed.ensures.is w.past_function-passed.ensures.room w.if-passed-eq0.false
      | in-Global w ↦
          same_past (functions_of (map item_of items)) (functions_of (map item_of (drop i items))) (functions_of (map item_of (drop (i + 1) items))) c.loop-item.number c.match-item.number c.loop-item.passed c.match-item.passed c.loop-item.invariant
          (global_next items i c.item-item.result _ c.loop-item-test.true c.item-item.is w.in-Global.is) w.number-is w.passed-is
    ]

pub unreachable-requires : goal.unreachable-requires
unreachable-requires c =
    let items = c.items-items.result.now in
    let i : ℕ = c.loop-item.item-index in
    let P : List Item → Type 0 = λ t. 65535 < (end_of t).pc in
    never_overfull (map item_of items) (functions_of (map item_of (drop i items))) c.loop-item.number c.loop-item.passed c.loop-item.invariant (none_left items i c.loop-item-test.false) (subst P (sym c.items-items.ensures.items) c.requires)
