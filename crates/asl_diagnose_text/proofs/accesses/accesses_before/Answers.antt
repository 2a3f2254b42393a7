use Rattle.std.proofs.Common.{ℕ, List, sym, ap, ◌∙◌}
use Rattle.asl_syntax.specs.AstView.{tree_of}
use Rattle.asl_syntax.specs.Tree.{Function, Item, functions_of}
use Rattle.asl_diagnose_text.specs.declared.code_walk.Passed.{Passed}
use Rattle.asl_diagnose_text.specs.AccessView.{after_functions}
use Rattle.asl_diagnose_text.proofs.AccessCounts.{start, accesses_are}
use Rattle.asl_diagnose_text.proofs.Sizes.{none_left}
use Rattle.asl_diagnose_text.proofs.accesses.accesses_before.Goals as goal

pub returns : goal.returns
returns c =
    let items = c.items-items.result.now in
    let i : ℕ = c.loop-item.item-index in
    λ l h.
    sym (ap (λ (fs : List Function). (after_functions c.loop-item.passed fs).accesses) (none_left items i c.loop-item-test.false))
    ∙ ap (λ (p : Passed). p.accesses) c.loop-item.invariant.0
    ∙ ap (λ (t : List Item). (after_functions (start c.args.pc) (functions_of t)).accesses) c.items-items.ensures.items
    ∙ accesses_are (tree_of c.args.ast.now) l c.args.pc h
