use Rattle.std.proofs.Common.{◌≡◌, ◌↔◌, ℕ, Bool, List, length, map, replicate, ap, sym, ◌∙◌, subst, arith}
use Rattle.std.proofs.lemmas.List.{length-map, length-replicate}
use Rattle.asl_code.specs.declared.image.Function as entry
use Rattle.asl_lane_sets.specs.NumberSet.{members_of}
use Rattle.asl_lock_expr.specs.ClassOf.{TellsStores}
use Rattle.asl_lock_expr.specs.Stores.{stores}
use Rattle.asl_lock_expr.specs.Storing.{IsMarked, AreOver, Reaches, row}
use Rattle.asl_lock_expr.proofs.RowNumbers.{row_read}
use Rattle.asl_lock_expr.proofs.Storings.{AreRows, AreBelow, below_one, tells}
use Rattle.asl_lock_expr.proofs.Sets.{lengths_first, over_first, below_first}
use Rattle.asl_lock_expr.proofs.stores.writes.Goals as goal

pub loop-class-init : goal.loop-class-init
loop-class-init c =
    let n : ℕ = length c.functions-count.result.now in
    let own = c.deref-stored-items.result.now in
    let len : ℕ = c.len.result in
    let same : len ≡ length own = omega (arith, c.len.ensures, ap length c.deref-stored-items.ensures.value) in
    record {
      lengths = ap (map length) c.in_ok-sets.ensures ∙ lengths_first n len ∙ ap (replicate n) same;
      below = subst (λ ss. AreBelow n own c.in_ok-stores.field-0.callers.items (map members_of ss) 0) (sym c.in_ok-sets.ensures) (below_first n own c.in_ok-stores.field-0.callers.items n len);
    }

pub add_class-requires-clause-there : goal.add_class-requires-clause-there
add_class-requires-clause-there c =
    let n : ℕ = length c.functions-count.result.now in
    let many = ap length c.loop-class.invariant.lengths in
    omega (arith, many, length-map c.loop-class.sets.items length, length-replicate n (length c.deref-stored-items.result.now), ap length c.deref-in-loop-class.ensures.value, c.in_ok-marks.ensures.count)

pub add_class-requires-clause-below : goal.add_class-requires-clause-below
add_class-requires-clause-below c =
    subst (AreOver c.loop-class.class) (sym c.loop-class.invariant.lengths) (over_first (length c.functions-count.result.now) (length c.deref-stored-items.result.now) c.loop-class.class c.loop-class-test.true)

pub loop-class-preserved : goal.loop-class-preserved
loop-class-preserved c =
    let n : ℕ = length c.functions-count.result.now in
    let own = c.deref-stored-items.result.now in
    let class : ℕ = c.loop-class.class in
    let listed : c.as_slice.result.now ≡ row own class = c.as_slice.ensures ∙ sym (row_read own class c.stored-item.result c.loop-class-test.true c.stored-item.is) in
    let marked : (f : ℕ) → IsMarked c.deref-in-loop-class.result.now f ↔ Reaches n c.in_ok-stores.field-0.callers.items c.as_slice.result.now f =
    subst (λ (ms : List Bool). (f : ℕ) → IsMarked ms f ↔ Reaches n c.in_ok-stores.field-0.callers.items c.as_slice.result.now f) (sym c.deref-in-loop-class.ensures.value)
    (subst (λ (cs : List (List ℕ)). (f : ℕ) → IsMarked c.in_ok-marks.marks.items f ↔ Reaches n cs c.as_slice.result.now f) c.deref.ensures.value c.in_ok-marks.ensures.marks) in
    record {
      lengths = c.add_class.ensures.lengths ∙ c.loop-class.invariant.lengths;
      below = below_one n own c.in_ok-stores.field-0.callers.items (map members_of c.loop-class.sets.items) (map members_of c.add_class.new.sets.items) c.deref-in-loop-class.result.now class c.as_slice.result.now listed marked c.add_class.ensures.classes c.loop-class.invariant.below;
    }

pub returns : goal.returns
returns c =
    let l = c.args.lowering.now in
    let own = c.in_ok-stores.field-0.stores.items in
    let callers = c.in_ok-stores.field-0.callers.items in
    let lists = map members_of c.loop-class.sets.items in
    let rows : AreRows l c.args.classes.now own callers = record { kept = c.functions-count.ensures.kept; stores = c.in_ok-stores.ensures.stores; calls = c.in_ok-stores.ensures.calls } in
    let below : AreBelow (length l.functions) own callers lists c.loop-class.class =
    subst (λ (fs : List entry.Function). AreBelow (length fs) own callers lists c.loop-class.class) c.functions-count.ensures.functions
    (subst (λ (rs : List (List ℕ)). AreBelow (length c.functions-count.result.now) rs callers lists c.loop-class.class) c.deref-stored-items.ensures.value c.loop-class.invariant.below) in
    subst (λ (ls : List (List ℕ)). TellsStores l c.args.classes.now (stores ls)) (sym c.from_sets.ensures)
    (tells l c.args.classes.now own callers lists c.loop-class.class rows (omega (arith, ap length c.deref-stored-items.ensures.value, c.loop-class-test.false)) below)
