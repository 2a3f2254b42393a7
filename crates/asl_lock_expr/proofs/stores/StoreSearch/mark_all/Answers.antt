use Rattle.std.proofs.Common.{◌≡◌, Bool, List, Some, false, slice_get, refl, ap, sym, ◌∙◌, subst, ◌<◌, ◌++◌, ◌∷◌, [], length, get_or, ℕ}
use Rattle.asl_lock_expr.specs.declared.stores.StoreSearch.{StoreSearch}
use Rattle.asl_lock_expr.specs.Storing.{IsMarked}
use Rattle.asl_lock_expr.proofs.Searches.{marks_step, marks_stay}
use Rattle.asl_lock_expr.proofs.stores.StoreSearch.mark_all.Goals as goal
use Rattle.asl_lock_expr.proofs.stores.StoreSearch.mark_all.Goals.{then-is_free+in_ok-push, else-is_free}

pub loop-function-preserved : goal.loop-function-preserved
loop-function-preserved c =
    elim c.if-is_free.branch [
      | then-is_free+in_ok-push w ↦
          let free : slice_get c.loop-function.self.marks.items w.from.result ≡ Some false = ap (slice_get c.loop-function.self.marks.items) w.from.ensures ∙ ap (λ (ms : List Bool). slice_get ms (get_or c.args.functions.now c.loop-function.function-index 0)) (sym c.deref.ensures.value) ∙ w.if-is_free.ensures.free refl in
          marks_step c.args.functions.now c.loop-function.function-index w.from.result c.args.self.now.marks.items c.loop-function.self.marks.items c.if-is_free.self.marks.items c.args.self.now.waiting.items c.loop-function.self.waiting.items c.if-is_free.self.waiting.items 0
          c.loop-function-test.true w.from.ensures free (ap (λ (s : StoreSearch). s.marks.items) w.self-is)
          (ap (λ (s : StoreSearch). s.waiting.items) w.self-is ∙ w.in_ok-push.ensures.items ∙ ap (λ (x : ℕ). c.loop-function.self.waiting.items ++ x ∷ []) (sym w.from.ensures)) c.loop-function.invariant
      | else-is_free w ↦
          let taken = w.if-is_free.ensures.taken refl in
          marks_stay c.args.functions.now c.loop-function.function-index _ c.args.self.now.marks.items c.loop-function.self.marks.items c.if-is_free.self.marks.items c.args.self.now.waiting.items c.loop-function.self.waiting.items c.if-is_free.self.waiting.items 0
          c.loop-function-test.true refl (subst (λ (ms : List Bool). get_or c.args.functions.now c.loop-function.function-index 0 < length ms → IsMarked ms (get_or c.args.functions.now c.loop-function.function-index 0)) c.deref.ensures.value taken) (ap (λ (s : StoreSearch). s.marks.items) w.self-is) (ap (λ (s : StoreSearch). s.waiting.items) w.self-is) c.loop-function.invariant
    ]
