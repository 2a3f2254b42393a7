-- Too much inside is too much in all, and the parts of a statement's code are its template.
use Rattle.std.proofs.Common.{◌≡◌, ℕ, ◌+◌, ◌<◌, ◌≤◌, List, [], ◌∷◌, IfOk, length, set, arith, rules, sym, ap, ◌∙◌, subst, vec_len}
use Rattle.std.proofs.lemmas.List.{at_drop_more}
use Rattle.std.proofs.lemmas.Bool.{eqb-true, eqb-false}
use Rattle.asl_code.specs.declared.instr.Instr.TheVariants as instr
use Rattle.asl_syntax.specs.declared.tree.Statement as tree
use Rattle.asl_syntax.specs.declared.tree.Statement.TheViews.{the_lemmas}
use Rattle.asl_syntax.specs.declared.tree.Statement.TheFolds.{fold-roll-Statement, fold_out-Statement}
use Rattle.asl_syntax.specs.Tree.{Statement, IfStatement, AtomicStatement, NoMore}
use Rattle.asl_syntax.specs.View.{statement_of, block_of}
use Rattle.asl_lower.specs.Names.{register, stmt_arguments, block_arguments}
use Rattle.asl_lower.specs.Place.{past_stmt, past_block, next}
use Rattle.asl_lower.specs.OutputView.{Adds, AddsStatement, place_of}
use Rattle.asl_lower.specs.ScopeView.{scope_view}
use Rattle.asl_lower.proofs.Emits.{block_room, room_if_test, room_if_first, room_if_leap, room_if_second, room_while_test, room_enter, no_items, if_adds, if_else_adds, while_adds, leave_adds, patched_place}
use Rattle.asl_lower.proofs.statements.+emit.Goals as goal

pub emit_if-push-requires : goal.emit_if-push-requires
emit_if-push-requires t c = room_if_test c.args.x.now (block_of c.args.body.now) NoMore (place_of c.args.out.now) c.requires.room

pub emit_if-emit_block-requires : goal.emit_if-emit_block-requires
emit_if-emit_block-requires t c =
    let few : length c.args.scope.now.locals.now + block_arguments (block_of c.args.body.now) ≤ 64 = omega (arith, c.requires.few) in
    let room = room_if_first c.args.x.now (block_of c.args.body.now) NoMore (place_of c.args.out.now) (place_of c.push.new.self) c.in_ok-push.ensures.place c.requires.room in
    (search (rules, the_lemmas, fold-roll-Statement, fold_out-Statement), (few, room))

pub emit_if-returns : goal.emit_if-returns
emit_if-returns t c =
    let sc = scope_view c.args.scope.now in
    let x = c.args.x.now in
    let old = c.args.out.now in
    let at : c.len-branch.result ≡ length old.code.items = c.len-branch.ensures ∙ old.code.ok.0 in
    let patched : c.patch.new.self.code.items ≡ set c.emit_block.new.out.code.items (length old.code.items) (instr.JumpIfZero (register sc x) (length c.emit_block.new.out.code.items)) = cc in
    if_adds sc x (block_of c.args.body.now) old c.push.new.self c.emit_block.new.out c.patch.new.self _ c.in_ok-push.ensures c.in_ok-emit_block.ensures patched c.patch.ensures.sections c.patch.ensures.sites

pub emit_while-push-requires : goal.emit_while-push-requires
emit_while-push-requires t c = room_while_test c.args.x.now (block_of c.args.body.now) (place_of c.args.out.now) c.requires.room

pub emit_while-returns : goal.emit_while-returns
emit_while-returns t c =
    let sc = scope_view c.args.scope.now in
    let old = c.args.out.now in
    let at : c.from.result ≡ length old.code.items = c.from.ensures ∙ c.here-from.ensures in
    let J : ℕ → Type 0 = λ n. Adds c.emit_block.new.out c.push-2.new.self (instr.Jump n ∷ []) [] (next (place_of c.emit_block.new.out)) in
    let back = subst J c.here-from.ensures c.in_ok-push-2.ensures in
    let patched : c.patch.new.self.code.items ≡ set c.push-2.new.self.code.items (length old.code.items) (instr.JumpIfZero (register sc c.args.x.now) (length c.push-2.new.self.code.items)) = cc in
    while_adds sc c.args.x.now (block_of c.args.body.now) old c.push.new.self c.emit_block.new.out c.push-2.new.self c.patch.new.self _ c.in_ok-push.ensures c.in_ok-emit_block.ensures back patched c.patch.ensures.sections c.patch.ensures.sites

pub emit_statement-returns-in_ok-emit_block-in-Atomic : goal.emit_statement-returns-in_ok-emit_block-in-Atomic
emit_statement-returns-in_ok-emit_block-in-Atomic t c =
    let sc = scope_view c.args.scope.now in
    let old = c.args.out.now in
    let e : statement_of c.args.statement.now ≡ AtomicStatement (block_of c.in-Atomic.body.items) = search (rules, the_lemmas, fold-roll-Statement, fold_out-Statement) in
    let g : statement_of c.args.statement.now ≡ AtomicStatement (block_of c.deref-in-Atomic.result.now) = e ∙ ap (λ (l : List tree.Statement). AtomicStatement (block_of l)) (sym c.deref-in-Atomic.ensures.value) in
    let P : Statement → Type 0 = λ s. IfOk c.leave.result (λ _. AddsStatement sc s old c.leave.new.self) in
    subst P (sym g) (leave_adds sc (block_of c.deref-in-Atomic.result.now) old c.enter.new.self c.emit_block-in-Atomic.new.out c.leave.new.self c.leave.result c.len-number.result c.here-acquire.result (c.len-number.ensures ∙ old.sections.ok.0) c.here-acquire.ensures c.in_ok-enter-in-Atomic.ensures c.in_ok-emit_block-in-Atomic.ensures c.leave.ensures.code c.leave.ensures.sections c.leave.ensures.sites)

pub emit_block-emit_statement-requires : goal.emit_block-emit_statement-requires
emit_block-emit_statement-requires t c =
    let room = block_room c.args.block.now c.loop-statement.statement-index c.statement-item.result (place_of c.loop-statement.out) (place_of c.args.out.now) c.loop-statement.invariant.3 c.loop-statement-test.true c.statement-item.is c.requires.room in
    let step = at_drop_more (λ (ss : List tree.Statement). block_arguments (block_of ss)) c.args.block.now c.loop-statement.statement-index c.statement-item.result c.loop-statement-test.true in
    let here = ap (λ (s : tree.Statement). stmt_arguments (statement_of s)) c.statement-item.is in
    let few : length c.args.scope.now.locals.now + stmt_arguments (statement_of c.statement-item.result) ≤ 64 = omega (arith, c.loop-statement.invariant.0, step, here) in
    (search (rules, the_lemmas, fold-roll-Statement, fold_out-Statement), (few, room))

pub emit_statement-enter-requires : goal.emit_statement-enter-requires
emit_statement-enter-requires t c =
    let e : statement_of c.args.statement.now ≡ AtomicStatement (block_of c.in-Atomic.body.items) = search (rules, the_lemmas, fold-roll-Statement, fold_out-Statement) in
    let P : Statement → Type 0 = λ s. (past_stmt s (place_of c.args.out.now)).pc ≤ 65535 in
    room_enter (block_of c.in-Atomic.body.items) (place_of c.args.out.now) (subst P e c.requires.room)

pub emit_statement-returns-in_ok-emit_block-in-If-2 : goal.emit_statement-returns-in_ok-emit_block-in-If-2
emit_statement-returns-in_ok-emit_block-in-If-2 t c =
    let sc = scope_view c.args.scope.now in
    let old = c.args.out.now in
    let e : statement_of c.args.statement.now ≡ IfStatement c.in-If.x (block_of c.in-If.first.items) (block_of c.in-If.second.items) = search (rules, the_lemmas, fold-roll-Statement, fold_out-Statement) in
    let g : statement_of c.args.statement.now ≡ IfStatement c.in-If.x (block_of c.deref-in-If.result.now) (block_of c.deref-in-If-2.result.now) = e ∙ ap (λ (l : List tree.Statement). IfStatement c.in-If.x (block_of l) (block_of c.in-If.second.items)) (sym c.deref-in-If.ensures.value) ∙ ap (λ (l : List tree.Statement). IfStatement c.in-If.x (block_of c.deref-in-If.result.now) (block_of l)) (sym c.deref-in-If-2.ensures.value) in
    let some : 0 < length c.deref-in-If-2.result.now = omega (arith, eqb-false (vec_len c.in-If.second) 0 (sym c.is_empty.ensures ∙ c.if-is_empty.false), c.in-If.second.ok.0, ap length c.deref-in-If-2.ensures.value) in
    let at : c.len-branch.result ≡ length old.code.items = c.len-branch.ensures ∙ old.code.ok.0 in
    let over : c.len-leap.result ≡ length c.emit_block.new.out.code.items = c.len-leap.ensures ∙ c.emit_block.new.out.code.ok.0 in
    let first_patch : c.patch.new.self.code.items ≡ set c.push-in-If-2.new.self.code.items (length old.code.items) (instr.JumpIfZero (register sc c.in-If.x) (length c.push-in-If-2.new.self.code.items)) = cc in
    let second_patch : c.patch-in-If.new.self.code.items ≡ set c.emit_block-in-If.new.out.code.items (length c.emit_block.new.out.code.items) (instr.Jump (length c.emit_block-in-If.new.out.code.items)) = cc in
    let P : Statement → Type 0 = λ s. AddsStatement sc s old c.patch-in-If.new.self in
    subst P (sym g) (if_else_adds sc c.in-If.x (block_of c.deref-in-If.result.now) c.deref-in-If-2.result.now old c.push-in-If.new.self c.emit_block.new.out c.push-in-If-2.new.self c.patch.new.self c.emit_block-in-If.new.out c.patch-in-If.new.self _ _ some c.in_ok-push-in-If.ensures c.in_ok-emit_block-in-If.ensures c.in_ok-push-in-If-2.ensures first_patch c.patch.ensures.sections c.patch.ensures.sites c.in_ok-emit_block-in-If-2.ensures second_patch c.patch-in-If.ensures.sections c.patch-in-If.ensures.sites)

pub emit_statement-push-requires-in-If : goal.emit_statement-push-requires-in-If
emit_statement-push-requires-in-If t c =
    let e : statement_of c.args.statement.now ≡ IfStatement c.in-If.x (block_of c.in-If.first.items) (block_of c.in-If.second.items) = search (rules, the_lemmas, fold-roll-Statement, fold_out-Statement) in
    let P : Statement → Type 0 = λ s. (past_stmt s (place_of c.args.out.now)).pc ≤ 65535 in
    room_if_test c.in-If.x (block_of c.in-If.first.items) (block_of c.in-If.second.items) (place_of c.args.out.now) (subst P e c.requires.room)

pub emit_statement-emit_block-requires : goal.emit_statement-emit_block-requires
emit_statement-emit_block-requires t c =
    let e : statement_of c.args.statement.now ≡ IfStatement c.in-If.x (block_of c.in-If.first.items) (block_of c.in-If.second.items) = search (rules, the_lemmas, fold-roll-Statement, fold_out-Statement) in
    let f : c.in-If.first.items ≡ c.deref-in-If.result.now = sym c.deref-in-If.ensures.value in
    let g : statement_of c.args.statement.now ≡ IfStatement c.in-If.x (block_of c.deref-in-If.result.now) (block_of c.in-If.second.items) = e ∙ ap (λ (l : List tree.Statement). IfStatement c.in-If.x (block_of l) (block_of c.in-If.second.items)) f in
    let P : Statement → Type 0 = λ s. (past_stmt s (place_of c.args.out.now)).pc ≤ 65535 in
    let room = room_if_first c.in-If.x (block_of c.deref-in-If.result.now) (block_of c.in-If.second.items) (place_of c.args.out.now) (place_of c.push-in-If.new.self) c.in_ok-push-in-If.ensures.place (subst P g c.requires.room) in
    let Q : Statement → Type 0 = λ s. length c.args.scope.now.locals.now + stmt_arguments s ≤ 64 in
    let few = subst Q g c.requires.few in
    (search (rules, the_lemmas, fold-roll-Statement, fold_out-Statement), (omega (arith, few), room))

pub emit_statement-push-requires-in-If-2 : goal.emit_statement-push-requires-in-If-2
emit_statement-push-requires-in-If-2 t c =
    let e : statement_of c.args.statement.now ≡ IfStatement c.in-If.x (block_of c.in-If.first.items) (block_of c.in-If.second.items) = search (rules, the_lemmas, fold-roll-Statement, fold_out-Statement) in
    let f : c.in-If.first.items ≡ c.deref-in-If.result.now = sym c.deref-in-If.ensures.value in
    let g : statement_of c.args.statement.now ≡ IfStatement c.in-If.x (block_of c.deref-in-If.result.now) (block_of c.in-If.second.items) = e ∙ ap (λ (l : List tree.Statement). IfStatement c.in-If.x (block_of l) (block_of c.in-If.second.items)) f in
    let some : 0 < length c.in-If.second.items = omega (arith, eqb-false (vec_len c.in-If.second) 0 (sym c.is_empty.ensures ∙ c.if-is_empty.false), c.in-If.second.ok.0) in
    let there = c.in_ok-emit_block-in-If.ensures.place ∙ ap (past_block (block_of c.deref-in-If.result.now)) c.in_ok-push-in-If.ensures.place in
    let P : Statement → Type 0 = λ s. (past_stmt s (place_of c.args.out.now)).pc ≤ 65535 in
    room_if_leap c.in-If.x (block_of c.deref-in-If.result.now) c.in-If.second.items (place_of c.args.out.now) (place_of c.emit_block.new.out) there some (subst P g c.requires.room)

pub emit_statement-emit_block-requires-in-If : goal.emit_statement-emit_block-requires-in-If
emit_statement-emit_block-requires-in-If t c =
    let e : statement_of c.args.statement.now ≡ IfStatement c.in-If.x (block_of c.in-If.first.items) (block_of c.in-If.second.items) = search (rules, the_lemmas, fold-roll-Statement, fold_out-Statement) in
    let g : statement_of c.args.statement.now ≡ IfStatement c.in-If.x (block_of c.deref-in-If.result.now) (block_of c.deref-in-If-2.result.now) = e ∙ ap (λ (l : List tree.Statement). IfStatement c.in-If.x (block_of l) (block_of c.in-If.second.items)) (sym c.deref-in-If.ensures.value) ∙ ap (λ (l : List tree.Statement). IfStatement c.in-If.x (block_of c.deref-in-If.result.now) (block_of l)) (sym c.deref-in-If-2.ensures.value) in
    let some : 0 < length c.deref-in-If-2.result.now = omega (arith, eqb-false (vec_len c.in-If.second) 0 (sym c.is_empty.ensures ∙ c.if-is_empty.false), c.in-If.second.ok.0, ap length c.deref-in-If-2.ensures.value) in
    let at = patched_place c.push-in-If-2.new.self c.patch.new.self _ _ c.patch.ensures.code c.patch.ensures.sections c.patch.ensures.sites in
    let there = at ∙ c.in_ok-push-in-If-2.ensures.place ∙ ap next (c.in_ok-emit_block-in-If.ensures.place ∙ ap (past_block (block_of c.deref-in-If.result.now)) c.in_ok-push-in-If.ensures.place) in
    let P : Statement → Type 0 = λ s. (past_stmt s (place_of c.args.out.now)).pc ≤ 65535 in
    let room = room_if_second c.in-If.x (block_of c.deref-in-If.result.now) c.deref-in-If-2.result.now (place_of c.args.out.now) (place_of c.patch.new.self) there some (subst P g c.requires.room) in
    let Q : Statement → Type 0 = λ s. length c.args.scope.now.locals.now + stmt_arguments s ≤ 64 in
    let few = subst Q g c.requires.few in
    (search (rules, the_lemmas, fold-roll-Statement, fold_out-Statement), (omega (arith, few), room))

pub emit_statement-returns-then-is_empty : goal.emit_statement-returns-then-is_empty
emit_statement-returns-then-is_empty t c =
    let sc = scope_view c.args.scope.now in
    let old = c.args.out.now in
    let e : statement_of c.args.statement.now ≡ IfStatement c.in-If.x (block_of c.in-If.first.items) (block_of c.in-If.second.items) = search (rules, the_lemmas, fold-roll-Statement, fold_out-Statement) in
    let f : c.in-If.first.items ≡ c.deref.result.now = sym c.deref.ensures.value in
    let none : length c.in-If.second.items ≡ 0 = omega (arith, eqb-true (vec_len c.in-If.second) 0 (sym c.is_empty.ensures ∙ c.if-is_empty.true), c.in-If.second.ok.0) in
    let g : statement_of c.args.statement.now ≡ IfStatement c.in-If.x (block_of c.deref.result.now) NoMore = e ∙ ap (λ (l : List tree.Statement). IfStatement c.in-If.x (block_of l) (block_of c.in-If.second.items)) f ∙ ap (λ (l : List tree.Statement). IfStatement c.in-If.x (block_of c.deref.result.now) (block_of l)) (no_items c.in-If.second.items none) in
    let P : Statement → Type 0 = λ s. IfOk c.emit_if.result (λ x. AddsStatement sc s old c.emit_if.new.out) in
    subst P (sym g) c.emit_if.ensures
