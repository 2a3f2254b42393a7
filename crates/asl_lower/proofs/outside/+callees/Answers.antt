use Rattle.std.proofs.Common.{◌≡◌, ◌+◌, ◌++◌, ℕ, List, map, drop, rules, sym, ap, ap₂, ◌∙◌, subst}
use Rattle.asl_syntax.specs.declared.tree.Statement as tree
use Rattle.asl_syntax.specs.declared.tree.Statement.TheViews.{the_lemmas}
use Rattle.asl_syntax.specs.declared.tree.Statement.TheFolds.{fold-roll-Statement, fold_out-Statement}
use Rattle.asl_syntax.specs.Tree.{IfStatement, functions_of}
use Rattle.asl_syntax.specs.View.{item_of, statement_of, block_of}
use Rattle.asl_lower.specs.Names.{function_names}
use Rattle.asl_lower.specs.Outside.{stmt_callees, block_callees, MarksThese}
use Rattle.asl_lower.proofs.Marking.{marks_none, marks_join, callees_left, callees_none}
use Rattle.asl_lower.proofs.outside.+callees.Goals as goal

pub mark_block-loop-statement-preserved : goal.mark_block-loop-statement-preserved
mark_block-loop-statement-preserved t c = λ end h.
    let names = function_names (functions_of (map item_of c.args.items.now)) in
    let ss = c.args.block.now in
    let i : ℕ = c.loop-statement.statement-index in
    let left = callees_left names ss i c.statement-item.result c.loop-statement-test.true c.statement-item.is in
    let P : List ℕ → Type 0 = λ xs. MarksThese xs c.loop-statement.marks end in
    c.loop-statement.invariant end (subst P (sym left) (marks_join (stmt_callees names (statement_of c.statement-item.result)) (block_callees names (block_of (drop (i + 1) ss))) c.loop-statement.marks c.mark_statement.new.marks end c.mark_statement.ensures h))

pub mark_block-returns : goal.mark_block-returns
mark_block-returns t c =
    let names = function_names (functions_of (map item_of c.args.items.now)) in
    let P : List ℕ → Type 0 = λ xs. MarksThese xs c.loop-statement.marks c.loop-statement.marks in
    c.loop-statement.invariant c.loop-statement.marks (subst P (sym (callees_none names c.args.block.now c.loop-statement.statement-index c.loop-statement-test.false)) (marks_none c.loop-statement.marks))

pub mark_statement-returns-in-If : goal.mark_statement-returns-in-If
mark_statement-returns-in-If t c =
    let names = function_names (functions_of (map item_of c.args.items.now)) in
    let e : statement_of c.args.statement.now ≡ IfStatement c.in-If.field-0 (block_of c.in-If.first.items) (block_of c.in-If.second.items) = search (rules, the_lemmas, fold-roll-Statement, fold_out-Statement) in
    let a : block_callees names (block_of c.deref.result.now) ≡ block_callees names (block_of c.in-If.first.items) = ap (λ (l : List tree.Statement). block_callees names (block_of l)) c.deref.ensures.value in
    let b : block_callees names (block_of c.deref-in-If.result.now) ≡ block_callees names (block_of c.in-If.second.items) = ap (λ (l : List tree.Statement). block_callees names (block_of l)) c.deref-in-If.ensures.value in
    let j = marks_join (block_callees names (block_of c.deref.result.now)) (block_callees names (block_of c.deref-in-If.result.now)) c.args.marks.now c.mark_block.new.marks c.mark_block-in-If.new.marks c.mark_block.ensures c.mark_block-in-If.ensures in
    let P : List ℕ → Type 0 = λ xs. MarksThese xs c.args.marks.now c.mark_block-in-If.new.marks in
    subst P (ap₂ (λ (xs : List ℕ) (ys : List ℕ). xs ++ ys) a b ∙ ap (stmt_callees names) (sym e)) j

pub mark_statement-mark_block-requires : goal.mark_statement-mark_block-requires
mark_statement-mark_block-requires t c =
    (search (rules, the_lemmas, fold-roll-Statement, fold_out-Statement), c.requires)

pub mark_statement-mark_block-requires-in-If : goal.mark_statement-mark_block-requires-in-If
mark_statement-mark_block-requires-in-If t c =
    (search (rules, the_lemmas, fold-roll-Statement, fold_out-Statement), c.requires)
