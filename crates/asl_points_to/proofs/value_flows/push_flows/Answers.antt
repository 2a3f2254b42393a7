use Rattle.std.proofs.Common.{◌≡◌, ℕ, List, ◌++◌, length, Ok, Err, Result, IfOk, get_or, sym, ap, ◌∙◌, subst, arith}
use Rattle.asl_code.specs.declared.instr.Instr.{Instr}
use Rattle.asl_points_to.specs.declared.value_flow.Flow.{Flow}
use Rattle.std.proofs.lemmas.Option.{slice_get_within, get_or_from_slice_get}
use Rattle.asl_lower.specs.OpenSections.{returned}
use Rattle.asl_points_to.specs.Flows.{AddsFlows, plain_flow, call_flows}
use Rattle.asl_points_to.proofs.Owed.{adds_one, adds_none, adds_call}
use Rattle.asl_points_to.proofs.BodyFacts.{facts, called, is_plain}
use Rattle.asl_points_to.proofs.value_flows.push_flows.Goals as goal

pub bounds-functions-from : goal.bounds-functions-from
bounds-functions-from c =
    let k = called c.args.lowering.now c.args.function c.args.instr.now c.in-Call.to c.in-Call.first c.in-Call.callee c.from.result c.functions.result.now (record { params = 0; regs = 0; len = 0 }) c.functions.ensures.kept c.requires.stands c.in-Call.is c.functions.ensures.functions c.from.ensures in
    omega (arith, k.low, c.from.ensures, ap length c.functions.ensures.functions)

pub bounds-results-from : goal.bounds-results-from
bounds-results-from c =
    let k = called c.args.lowering.now c.args.function c.args.instr.now c.in-Call.to c.in-Call.first c.in-Call.callee c.from.result c.functions.result.now (record { params = 0; regs = 0; len = 0 }) c.functions.ensures.kept c.requires.stands c.in-Call.is c.functions.ensures.functions c.from.ensures in
    omega (arith, slice_get_within c.args.results.now c.in-Call.callee (returned c.args.lowering.now c.in-Call.callee) (c.requires.results c.in-Call.callee k.low), c.from-in-Call.ensures)

pub push_call-requires : goal.push_call-requires
push_call-requires c =
    let k = called c.args.lowering.now c.args.function c.args.instr.now c.in-Call.to c.in-Call.first c.in-Call.callee c.from.result c.functions.result.now (record { params = 0; regs = 0; len = 0 }) c.functions.ensures.kept c.requires.stands c.in-Call.is c.functions.ensures.functions c.from.ensures in
    k.arguments

then_ok : {T E : Type 0} (r : Result T E) (P Q : T → Type 0) → ((x : T) → P x → Q x) → IfOk r P → IfOk r Q
then_ok (Ok x) P Q f h = f x h
then_ok (Err e) P Q f h = h

pub returns-in-Call : goal.returns-in-Call
returns-in-Call c =
    let l = c.args.lowering.now in
    let k = called l c.args.function c.args.instr.now c.in-Call.to c.in-Call.first c.in-Call.callee c.from.result c.functions.result.now (record { params = 0; regs = 0; len = 0 }) c.functions.ensures.kept c.requires.stands c.in-Call.is c.functions.ensures.functions c.from.ensures in
    let h = facts l c.args.function c.args.instr.now c.functions.ensures.kept c.requires.stands in
    let read : get_or c.args.results.now c.from-in-Call.result 0 ≡ returned l c.in-Call.callee =
    ap (λ (n : ℕ). get_or c.args.results.now n 0) c.from-in-Call.ensures ∙ get_or_from_slice_get c.args.results.now c.in-Call.callee (returned l c.in-Call.callee) 0 (c.requires.results c.in-Call.callee k.low) in
    let Adds : Instr → Type 0 = λ i. AddsFlows l c.args.function i c.args.flows.now.items c.push_call.new.flows.items in
    let New : List Flow → Type 0 = λ fs. AddsFlows l c.args.function (Rattle.asl_code.specs.declared.instr.Instr.TheVariants.Call c.in-Call.to c.in-Call.first c.in-Call.callee) c.args.flows.now.items fs in
    then_ok c.push_call.result _ (λ _. Adds c.args.instr.now) (λ _ e. subst Adds (sym c.in-Call.is) (subst New (sym (e ∙ ap (λ (r : ℕ). c.args.flows.now.items ++ call_flows c.args.function c.in-Call.to c.in-Call.first c.in-Call.callee (get_or c.functions.result.now c.from.result (record { params = 0; regs = 0; len = 0 })).params r) read)) (adds_call l h.layout c.args.function c.in-Call.to c.in-Call.first c.in-Call.callee _ c.args.flows.now.items h.low k.in_table))) c.push_call.ensures

pub returns-in_ok-push : goal.returns-in_ok-push
returns-in_ok-push c =
    let l = c.args.lowering.now in
    let h = facts l c.args.function c.args.instr.now c.globals.ensures.kept c.requires.stands in
    let Adds : List Flow → Type 0 = λ fs. AddsFlows l c.args.function c.args.instr.now c.args.flows.now.items fs in
    subst Adds (sym c.in_ok-push.ensures.items) (adds_one l c.args.function h.function.regs c.args.instr.now c.in-Some.flow c.args.flows.now.items (is_plain c.args.instr.now (λ a b g e. c.in_default.not-Call a b g e)) h.low h.operands (ap (λ (n : ℕ). plain_flow n c.args.function c.args.instr.now) (sym c.globals.ensures.globals) ∙ sym c.plain_flow.ensures ∙ c.in-Some.is))

pub returns-in_default-plain_flow : goal.returns-in_default-plain_flow
returns-in_default-plain_flow c =
    let l = c.args.lowering.now in
    let h = facts l c.args.function c.args.instr.now c.globals.ensures.kept c.requires.stands in
    adds_none l c.args.function h.function.regs c.args.instr.now c.args.flows.now.items (is_plain c.args.instr.now (λ a b g e. c.in_default.not-Call a b g e)) h.operands (ap (λ (n : ℕ). plain_flow n c.args.function c.args.instr.now) (sym c.globals.ensures.globals) ∙ sym c.plain_flow.ensures ∙ c.in_default-plain_flow.is)
