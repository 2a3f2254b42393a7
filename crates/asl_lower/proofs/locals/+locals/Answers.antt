use Rattle.std.proofs.Common.{◌≡◌, ◌<◌, List, length, arith, rules, sym, ap, ◌∙◌, subst}
use Rattle.asl_syntax.specs.declared.tree.Statement as tree
use Rattle.asl_syntax.specs.declared.tree.Statement.TheViews.{the_lemmas}
use Rattle.asl_syntax.specs.declared.tree.Statement.TheFolds.{fold-roll-Statement, fold_out-Statement}
use Rattle.asl_syntax.specs.Tree.{Statement, IfStatement}
use Rattle.asl_syntax.specs.View.{statement_of, block_of}
use Rattle.asl_lower.specs.Names.{stmt_locals, block_locals}
use Rattle.asl_lower.specs.NamesView.{names_of}
use Rattle.asl_lower.proofs.Numbering.{block_many, if_many}
use Rattle.asl_lower.proofs.locals.+locals.Goals as goal

pub add_block-returns-in_err-add_statement-clause-many : goal.add_block-returns-in_err-add_statement-clause-many
add_block-returns-in_err-add_statement-clause-many t c =
    let h : 64 < length (block_locals (names_of c.args.locals.now.items) (block_of c.args.block.now)) = block_many c.args.block.now c.loop-statement.statement-index c.statement-item.result (names_of c.loop-statement.locals.items) (names_of c.args.locals.now.items) c.loop-statement.invariant (omega arith) c.statement-item.is (search rules) in
    search (rules, h)

pub add_statement-returns-in_err-add_block-in-If-clause-many : goal.add_statement-returns-in_err-add_block-in-If-clause-many
add_statement-returns-in_err-add_block-in-If-clause-many t c =
    let e : statement_of c.args.statement.now ≡ IfStatement c.in-If.field-0 (block_of c.in-If.first.items) (block_of c.in-If.second.items) = search (rules, the_lemmas, fold-roll-Statement, fold_out-Statement) in
    let g : statement_of c.args.statement.now ≡ IfStatement c.in-If.field-0 (block_of c.deref.result.now) (block_of c.in-If.second.items) = e ∙ ap (λ (l : List tree.Statement). IfStatement c.in-If.field-0 (block_of l) (block_of c.in-If.second.items)) (sym c.deref.ensures.value) in
    let P : Statement → Type 0 = λ s. 64 < length (stmt_locals (names_of c.args.locals.now.items) s) in
    let h : P (statement_of c.args.statement.now) = subst P (sym g) (if_many c.in-If.field-0 (names_of c.args.locals.now.items) (block_of c.deref.result.now) (block_of c.in-If.second.items) (search rules)) in
    search (rules, h)
