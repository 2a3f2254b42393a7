use Rattle.std.proofs.Common.{◌∙◌, Some, [], length, ap, sym, refl, arith}
use Rattle.std.proofs.lemmas.Option.{slice_get_within}
use Rattle.asl_code.specs.declared.image.Function as entry
use Rattle.asl_backward_flow.specs.Follows.{read, IsEntered}
use Rattle.asl_backward_flow.proofs.Sets.{some_same}
use Rattle.asl_backward_flow.proofs.Masking.{on_more}
use Rattle.asl_backward_flow.proofs.Points.{stands_at, call_there, entered_list, not_entered}
use Rattle.asl_backward_flow.proofs.Entering.{added_ones, kept_ones}
use Rattle.asl_backward_flow.proofs.call_needs.add_one.Goals as goal

pub bounds-functions-from : goal.bounds-functions-from
bounds-functions-from c =
    let stands = stands_at c.args.analysis.now.lowering.now.code c.code.result.now c.from-2.result c.args.pc _ c.code.ensures.code c.from-2.ensures c.requires.code ∙ ap Some c.in-Call.is in
    let there = call_there c.args.analysis.now.lowering.now c.requires.analysis.kept _ _ _ _ stands in
    let lt = slice_get_within c.args.analysis.now.lowering.now.functions c.in-Call.function _ there.in_table in
    let same = c.from-in-Call.ensures in
    let all = ap length c.functions.ensures.functions in
    omega (arith, lt, same, all)

pub add_entered-requires-clause-registers : goal.add_entered-requires-clause-registers
add_entered-requires-clause-registers c =
    let stands = stands_at c.args.analysis.now.lowering.now.code c.code.result.now c.from-2.result c.args.pc _ c.code.ensures.code c.from-2.ensures c.requires.code ∙ ap Some c.in-Call.is in
    let there = call_there c.args.analysis.now.lowering.now c.requires.analysis.kept _ _ _ _ stands in
    let lt = slice_get_within c.args.analysis.now.lowering.now.functions c.in-Call.function _ there.in_table in
    let here = stands_at c.args.analysis.now.lowering.now.functions c.functions.result.now c.from-in-Call.result c.in-Call.function (record { params = 0; regs = 0; len = 0 }) c.functions.ensures.functions c.from-in-Call.ensures lt in
    let same = ap (λ (f : entry.Function). f.params) (some_same (sym there.in_table ∙ here)) in
    let few = there.registers in
    omega (arith, few, same)

pub returns-in-Call : goal.returns-in-Call
returns-in-Call c =
    let stands = stands_at c.args.analysis.now.lowering.now.code c.code.result.now c.from-2.result c.args.pc _ c.code.ensures.code c.from-2.ensures c.requires.code ∙ ap Some c.in-Call.is in
    let there = call_there c.args.analysis.now.lowering.now c.requires.analysis.kept _ _ _ _ stands in
    let lt = slice_get_within c.args.analysis.now.lowering.now.functions c.in-Call.function _ there.in_table in
    let here = stands_at c.args.analysis.now.lowering.now.functions c.functions.result.now c.from-in-Call.result c.in-Call.function (record { params = 0; regs = 0; len = 0 }) c.functions.ensures.functions c.from-in-Call.ensures lt in
    on_more c.add_entered.result _ _
    (λ is. added_ones c.args.into.now.items c.add_entered.new.into.items _ (IsEntered (read c.args.analysis.now) c.args.part c.args.pc c.args.lock.now) is
    (entered_list (read c.args.analysis.now) c.args.part c.args.pc _
    (stands_at c.args.analysis.now.spans.now c.args.analysis.now.spans.now c.from.result c.args.part _ refl c.from.ensures c.requires.there)
    c.in-Call.to c.in-Call.first c.in-Call.function _ c.args.lock.now stands here _ c.view-view.ensures [] _ refl refl))
    c.add_entered.ensures.ok

pub returns-in_default : goal.returns-in_default
returns-in_default c =
    kept_ones c.args.into.now.items (IsEntered (read c.args.analysis.now) c.args.part c.args.pc c.args.lock.now)
    (not_entered (read c.args.analysis.now) c.args.part c.args.pc _ c.args.lock.now
    (stands_at c.args.analysis.now.lowering.now.code c.code.result.now c.from-2.result c.args.pc _ c.code.ensures.code c.from-2.ensures c.requires.code)
    (λ to first g is. c.in_default.not-Call to first g is))
