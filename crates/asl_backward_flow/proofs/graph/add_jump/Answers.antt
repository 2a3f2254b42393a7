use Rattle.std.proofs.Common.{◌+◌, ◌∙◌, Some, map, ap, sym, arith}
use Rattle.std.proofs.lemmas.List.{length-map}
use Rattle.std.proofs.lemmas.Result.{on_ok_weaker}
use Rattle.asl_backward_flow.proofs.Points.{stands_at}
use Rattle.asl_backward_flow.proofs.JumpRows.{no_jump, jump_to_next, jump_there, one_jump}
use Rattle.asl_backward_flow.proofs.graph.add_jump.Goals as goal

pub add_to_row-requires : goal.add_to_row-requires
add_to_row-requires c =
    let at = stands_at c.args.lowering.now.code c.code.result.now c.from.result c.args.pc _ c.code.ensures.code c.from.ensures c.requires.there in
    let there = jump_there c.args.lowering.now c.args.pc _ at (map (λ r. r.items) c.args.rows.now.items) c.requires.before c.from-target.result (sym c.in-Some.ensures ∙ ap Some (sym c.from-target.ensures)) c.requires.kept c.requires.there in
    let rows = c.requires.rows in
    omega (arith, there, rows)

pub returns-then-target-from-clause-rows : goal.returns-then-target-from-clause-rows
returns-then-target-from-clause-rows c =
    let at = stands_at c.args.lowering.now.code c.code.result.now c.from.result c.args.pc _ c.code.ensures.code c.from.ensures c.requires.there in
    let is = sym c.in-Some.ensures ∙ ap Some (sym c.from-target.ensures) in
    let there = jump_there c.args.lowering.now c.args.pc _ at (map (λ r. r.items) c.args.rows.now.items) c.requires.before c.from-target.result is c.requires.kept c.requires.there in
    let rows = c.requires.rows in
    on_ok_weaker c.add_to_row.result
    (λ made. one_jump c.args.lowering.now c.args.pc _ at (map (λ r. r.items) c.args.rows.now.items) c.requires.before c.from-target.result is
    (λ e. c.if-target-from.true (e ∙ ap (λ n. n + 1) (sym c.from-in-Some.ensures)))
    (omega (arith, length-map c.args.rows.now.items (λ r. r.items), there, rows)) _ made)
    c.add_to_row.ensures.rows

pub returns-else-target-from-clause-rows : goal.returns-else-target-from-clause-rows
returns-else-target-from-clause-rows c =
    let at = stands_at c.args.lowering.now.code c.code.result.now c.from.result c.args.pc _ c.code.ensures.code c.from.ensures c.requires.there in
    jump_to_next c.args.lowering.now c.args.pc _ at (map (λ r. r.items) c.args.rows.now.items) c.requires.before c.from-target.result (sym c.in-Some.ensures ∙ ap Some (sym c.from-target.ensures))
    (c.if-target-from.false ∙ ap (λ n. n + 1) c.from-in-Some.ensures)

pub returns-in-None-clause-rows : goal.returns-in-None-clause-rows
returns-in-None-clause-rows c =
    let at = stands_at c.args.lowering.now.code c.code.result.now c.from.result c.args.pc _ c.code.ensures.code c.from.ensures c.requires.there in
    no_jump c.args.lowering.now c.args.pc _ at (map (λ r. r.items) c.args.rows.now.items) c.requires.before (sym c.in-None.ensures)
