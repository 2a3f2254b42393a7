use Rattle.std.proofs.Common.{◌≡◌, ◌⊎◌, ◌↔◌, ◌+◌, ◌<◌, ℕ, Bool, false, List, Some, Vec, Global, map, slice_get, ap, sym, subst, ◌∙◌, length, arith}
use Rattle.std.proofs.lemmas.List.{length-map}
use Rattle.std.proofs.lemmas.Option.{slice_get-get_or}
use Rattle.asl_lane_sets.specs.NumberSet.{members_of}
use Rattle.asl_lock_expr.specs.Storing.{IsIn, IsMarked, AreOver, row}
use Rattle.asl_lock_expr.proofs.Sets.{marked_more, unmarked_more, marked_all}
use Rattle.asl_lock_expr.proofs.stores.add_class.Goals as goal
use Rattle.asl_lock_expr.proofs.stores.add_class.Goals.{then-marked, else-marked}

pub add_to-requires-clause-there : goal.add_to-requires-clause-there
add_to-requires-clause-there c =
    let same = ap length c.loop-function.invariant.lengths in
    omega (arith, same, length-map c.loop-function.sets.items length, length-map c.args.sets.now.items length, c.requires.there, c.loop-function-test.true)

pub add_to-requires-clause-below : goal.add_to-requires-clause-below
add_to-requires-clause-below c = subst (AreOver c.args.class) (sym c.loop-function.invariant.lengths) c.requires.below

abbrev vec_items : Vec (List Bool) Global → List (List Bool)
vec_items v = v.items

abbrev Tells : List (List Bool) → ℕ → ℕ → Type 0
Tells sets f x = IsIn (row (map members_of sets) f) x

pub loop-function-preserved : goal.loop-function-preserved
loop-function-preserved c = elim c.if-marked.branch [
  | then-marked w ↦
      let marked : IsMarked c.args.marks.now c.loop-function.function = slice_get-get_or c.args.marks.now c.loop-function.function _ c.loop-function-test.true ∙ ap Some w.if-marked.true in
      record {
        lengths = ap (λ v. map length (vec_items v)) w.sets-is ∙ w.add_to.ensures.lengths ∙ c.loop-function.invariant.lengths;
        classes = subst (λ ss. (f x : ℕ) → Tells ss f x ↔ (Tells c.args.sets.now.items f x ⊎ ((f < c.loop-function.function + 1) × IsMarked c.args.marks.now f × (x ≡ c.args.class)))) (sym (ap vec_items w.sets-is))
            (marked_more (Tells c.args.sets.now.items) (Tells c.loop-function.sets.items) (Tells w.add_to.new.sets.items) c.args.marks.now c.loop-function.function c.args.class c.loop-function.invariant.classes marked w.add_to.ensures.classes);
      }
  | else-marked w ↦
      let isnt : slice_get c.args.marks.now c.loop-function.function ≡ Some false = slice_get-get_or c.args.marks.now c.loop-function.function _ c.loop-function-test.true ∙ ap Some w.if-marked.false in
      record {
        lengths = ap (λ v. map length (vec_items v)) w.sets-is ∙ c.loop-function.invariant.lengths;
        classes = subst (λ ss. (f x : ℕ) → Tells ss f x ↔ (Tells c.args.sets.now.items f x ⊎ ((f < c.loop-function.function + 1) × IsMarked c.args.marks.now f × (x ≡ c.args.class)))) (sym (ap vec_items w.sets-is))
            (unmarked_more (Tells c.args.sets.now.items) (Tells c.loop-function.sets.items) (Tells c.loop-function.sets.items) c.args.marks.now c.loop-function.function c.args.class c.loop-function.invariant.classes isnt);
      }
]

pub returns-clause-classes : goal.returns-clause-classes
returns-clause-classes c =
    marked_all (Tells c.args.sets.now.items) (Tells c.loop-function.sets.items) (Tells c.loop-function.sets.items) c.args.marks.now c.loop-function.function c.args.class c.loop-function.invariant.classes c.loop-function-test.false
