use Rattle.std.proofs.Common.{◌≡◌, ℕ, List, [], length, ap, ◌∙◌, subst, arith}
use Rattle.std.proofs.lemmas.List.{length-replicate}
use Rattle.asl_lock_expr.specs.Storing.{MarksAll}
use Rattle.asl_lock_expr.proofs.RowNumbers.{no_items}
use Rattle.asl_lock_expr.proofs.Searches.{IsSearch, search_begins, search_more, reached_marked}
use Rattle.asl_lock_expr.proofs.stores.storing.Goals as goal

pub loop-function-init : goal.loop-function-init
loop-function-init c =
    search_begins c.args.count c.args.callers.now c.args.listed.now c.in_ok-no_marks.field-0.items _ _ c.in_ok-no_marks.ensures (ap length c.in_ok-no_marks.ensures ∙ length-replicate c.args.count _)
    (subst (λ (w : List ℕ). MarksAll c.args.listed.now c.in_ok-no_marks.field-0.items c.mark_all.new.self.marks.items w c.mark_all.new.self.waiting.items) c.new.ensures.items c.in_ok-mark_all.ensures)

pub loop-function-preserved : goal.loop-function-preserved
loop-function-preserved c =
    search_more c.args.count c.args.callers.now c.args.listed.now _ _ _ _ _ _ c.in-Some.function c.in-Some.ensures.items c.row_at.ensures c.loop-function.invariant c.in_ok-mark_all-2.ensures

pub returns-clause-marks : goal.returns-clause-marks
returns-clause-marks c f =
    let none : length c.loop-function.search.waiting.items ≡ 0 = omega (arith, c.in_default.ensures.cases, c.loop-function.search.waiting.ok.0) in
    let ended : IsSearch c.args.count c.args.callers.now c.args.listed.now c.loop-function.search.marks.items [] = subst (λ (w : List ℕ). IsSearch c.args.count c.args.callers.now c.args.listed.now c.loop-function.search.marks.items w) (no_items c.loop-function.search.waiting.items none) c.loop-function.invariant in
    (ended.sound f, reached_marked c.args.count c.args.callers.now c.args.listed.now c.loop-function.search.marks.items ended f)
