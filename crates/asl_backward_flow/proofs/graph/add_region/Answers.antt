use Rattle.std.proofs.Common.{Vec, Global, List, ◌+◌, ◌∙◌, pos, ap, get_or, length, map, vec_len, refl, subst, sym, arith}
use Rattle.std.proofs.lemmas.List.{length-map}
use Rattle.asl_code.specs.declared.instr.Instr.TheVariants as instr
use Rattle.asl_backward_flow.proofs.Points.{stands_at}
use Rattle.asl_backward_flow.proofs.Each.{no_span}
use Rattle.asl_backward_flow.proofs.CallRows.{HasRange, called_at, not_called_at, range_begin, range_more, range_skip, range_end}
use Rattle.asl_backward_flow.proofs.graph.add_region.Goals.{in-Call+in_ok-add_to_row, in_default}
use Rattle.asl_backward_flow.proofs.graph.add_region.Goals as goal

abbrev vec_items : {A : Type 0} → Vec A Global → List A
vec_items v = v.items

pub loop-pc-init : goal.loop-pc-init
loop-pc-init c =
    let there = stands_at c.args.spans.now c.args.spans.now c.from.result c.args.part no_span refl c.from.ensures c.requires.there in (
      get_or c.args.spans.now c.from.result no_span,
      there,
      refl,
      omega arith,
      range_begin c.args.lowering.now c.args.spans.now c.args.part (get_or c.args.spans.now c.from.result no_span) (map (λ r. r.items) c.args.rows.now.items) c.requires.before,
      refl,
    )

pub add_to_row-requires : goal.add_to_row-requires
add_to_row-requires c =
    let inv = c.loop-pc.invariant in
    let within = c.requires.within c.args.part inv.0 inv.1 in
    let end = inv.2 in let lt = c.loop-pc-test.true in let same = c.from-in-Call.ensures in let rows = c.requires.rows in let count = inv.5 in
    omega (arith, within, end, lt, same, rows, count)

pub loop-pc-preserved : goal.loop-pc-preserved
loop-pc-preserved c =
    let l = c.args.lowering.now in
    let spans = c.args.spans.now in
    let part = c.args.part in
    let pc = c.loop-pc.pc in
    let inv = c.loop-pc.invariant in
    let span = inv.0 in
    let within = c.requires.within part span inv.1 in
    let end = inv.2 in let first = inv.3 in let lt = c.loop-pc-test.true in let rows = c.requires.rows in let count = inv.5 in let code = ap length c.code-code.ensures.code in
    elim c.match-code-from.branch [
      | in-Call+in_ok-add_to_row w ↦
          let same = w.from-in-Call.ensures in
          let made = ap (λ rs. map (λ r. r.items) (vec_items rs)) w.rows-is ∙ w.in_ok-add_to_row.ensures.rows in
          let call = called_at l c.code-code.result.now c.code-code.ensures.code pc c.from-in-loop-pc.result c.from-in-loop-pc.ensures (omega (arith, within, end, lt, code)) (instr.SetInt 0 (pos 0)) w.in-Call.to w.in-Call.first w.in-Call.function w.in-Call.is in (
            span,
            inv.1,
            inv.2,
            omega (arith, first),
            range_more l spans part span (map (λ r. r.items) c.loop-pc.rows.items) (map (λ r. r.items) (vec_items c.match-code-from.rows)) pc w.from-in-Call.result inv.1 call same first (omega (arith, lt, end))
                (omega (arith, length-map c.loop-pc.rows.items (λ r. r.items), within, end, lt, same, rows, count)) made inv.4,
            ap vec_len w.rows-is ∙ w.in_ok-add_to_row.ensures.count ∙ count,
          )
      | in_default w ↦ (
        span,
        inv.1,
        inv.2,
        omega (arith, first),
        subst (λ rs. HasRange (map (λ r. r.items) (vec_items rs)) l spans part span (pc + 1)) (sym w.rows-is)
            (range_skip l spans part span (map (λ r. r.items) c.loop-pc.rows.items) pc
            (not_called_at l c.code-code.result.now c.code-code.ensures.code pc c.from-in-loop-pc.result c.from-in-loop-pc.ensures (instr.SetInt 0 (pos 0)) w.in_default.not-Call) inv.4),
        ap vec_len w.rows-is ∙ count,
      )
    ]

pub returns-clause-rows : goal.returns-clause-rows
returns-clause-rows c =
    let inv = c.loop-pc.invariant in
    let past = c.loop-pc-test.false in
    range_end c.args.lowering.now c.args.spans.now c.args.part inv.0 (map (λ r. r.items) c.loop-pc.rows.items) c.loop-pc.pc inv.1 (omega (arith, past, inv.2)) inv.4
