use Rattle.std.proofs.Common.{Vec, Global, List, ◌≡◌, ◌+◌, ◌∙◌, pos, length, map, ap, sym, subst, arith}
use Rattle.std.proofs.lemmas.List.{length-map}
use Rattle.asl_code.specs.declared.instr.Instr.TheVariants as instr
use Rattle.asl_backward_flow.specs.Graph.{HasRows, IsCall}
use Rattle.asl_backward_flow.proofs.Rows.{rows_begin, as_many, as_many_empty}
use Rattle.asl_backward_flow.proofs.CallRows.{called_more, not_called, callee_there}
use Rattle.asl_backward_flow.proofs.graph.calls.Goals.{in-Call+in_ok-add_to_row, in_default}
use Rattle.asl_backward_flow.proofs.graph.calls.Goals as goal

abbrev vec_items : {A : Type 0} → Vec A Global → List A
vec_items v = v.items

pub add_to_row-requires : goal.add_to_row-requires
add_to_row-requires c =
    let there = callee_there c.args.lowering.now c.code-code.ensures.kept c.code-code.result.now c.code-code.ensures.code c.loop-pc.pc c.loop-pc-test.true (instr.SetInt 0 (pos 0)) c.in-Call.to c.in-Call.first c.in-Call.function c.in-Call.is in
    let same = c.from.ensures in
    let count = c.loop-pc.invariant.1 in
    omega (arith, there, same, count)

pub loop-pc-preserved : goal.loop-pc-preserved
loop-pc-preserved c =
    elim c.match-code-pc.branch [
      | in-Call+in_ok-add_to_row w ↦
          let made = ap (λ rs. map (λ r. r.items) (vec_items rs)) w.rows-is ∙ w.in_ok-add_to_row.ensures.rows in
          let there = callee_there c.args.lowering.now c.code-code.ensures.kept c.code-code.result.now c.code-code.ensures.code c.loop-pc.pc c.loop-pc-test.true (instr.SetInt 0 (pos 0)) w.in-Call.to w.in-Call.first w.in-Call.function w.in-Call.is in
          let same = w.from.ensures in
          let count = c.loop-pc.invariant.1 in (
            called_more c.args.lowering.now c.code-code.result.now c.code-code.ensures.code c.loop-pc.pc c.loop-pc-test.true (instr.SetInt 0 (pos 0)) w.in-Call.to w.in-Call.first w.in-Call.function w.from.result w.from.ensures w.in-Call.is
                (map (λ r. r.items) c.loop-pc.rows.items) _ made
                (omega (arith, length-map c.loop-pc.rows.items (λ r. r.items), there, same, count))
                c.loop-pc.invariant.0,
            count ∙ as_many (λ r. r.items) c.loop-pc.rows.items (vec_items c.match-code-pc.rows) _ _ made,
          )
      | in_default w ↦
          subst (λ rs. HasRows (map (λ r. r.items) (vec_items rs)) (IsCall c.args.lowering.now) (c.loop-pc.pc + 1) × (length c.args.lowering.now.functions ≡ length (vec_items rs))) (sym w.rows-is)
          (not_called c.args.lowering.now c.code-code.result.now c.code-code.ensures.code c.loop-pc.pc (instr.SetInt 0 (pos 0)) w.in_default.not-Call (map (λ r. r.items) c.loop-pc.rows.items) c.loop-pc.invariant.0, c.loop-pc.invariant.1)
    ]

pub loop-pc-init : goal.loop-pc-init
loop-pc-init c = (
  rows_begin (map (λ r. r.items) c.in_ok-rows.rows.items) (length c.functions.result.now) (IsCall c.args.lowering.now) c.in_ok-rows.ensures,
  sym (ap length c.functions.ensures.functions) ∙ as_many_empty (λ r. r.items) c.in_ok-rows.rows.items (length c.functions.result.now) c.in_ok-rows.ensures,
)

pub returns : goal.returns
returns c =
    let end = c.loop-pc-test.false in
    let at = c.loop-pc.auto.pc-end in
    let same = ap length c.code-code.ensures.code in
    subst (HasRows (map (λ r. r.items) c.loop-pc.rows.items) (IsCall c.args.lowering.now)) (omega arith) c.loop-pc.invariant.0
