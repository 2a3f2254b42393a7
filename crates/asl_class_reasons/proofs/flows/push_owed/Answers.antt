use Rattle.std.proofs.Common.{ℕ, length, get_or, sym, ap, ◌∙◌, arith}
use Rattle.asl_code.specs.declared.image.Function as entry
use Rattle.asl_points_to.specs.Flows.{Stands}
use Rattle.asl_points_to.proofs.BodyFacts.{called}
use Rattle.asl_class_reasons.specs.Draft.{plain_flow}
use Rattle.asl_class_reasons.proofs.Instructions.{call_more, plain_more, none_more}
use Rattle.asl_class_reasons.proofs.flows.push_owed.Goals as goal

pub bounds-functions-from : goal.bounds-functions-from
bounds-functions-from c =
    let s : Stands c.args.lowering.now c.args.function c.args.instr = record { pc = c.args.pc; inside = c.requires.body; there = c.requires.there } in
    let k = called c.args.lowering.now c.args.function c.args.instr c.in-Call.to c.in-Call.first c.in-Call.callee c.from.result c.functions.result.now (record { params = 0; regs = 0; len = 0 }) c.requires.kept s c.in-Call.is c.functions.ensures.functions c.from.ensures in
    omega (arith, k.low, c.from.ensures, ap length c.functions.ensures.functions)

pub push_passed-requires : goal.push_passed-requires
push_passed-requires c =
    let s : Stands c.args.lowering.now c.args.function c.args.instr = record { pc = c.args.pc; inside = c.requires.body; there = c.requires.there } in
    let k = called c.args.lowering.now c.args.function c.args.instr c.in-Call.to c.in-Call.first c.in-Call.callee c.from.result c.functions.result.now (record { params = 0; regs = 0; len = 0 }) c.requires.kept s c.in-Call.is c.functions.ensures.functions c.from.ensures in
    k.arguments

pub returned-requires : goal.returned-requires
returned-requires c =
    let s : Stands c.args.lowering.now c.args.function c.args.instr = record { pc = c.args.pc; inside = c.requires.body; there = c.requires.there } in
    let k = called c.args.lowering.now c.args.function c.args.instr c.in-Call.to c.in-Call.first c.in-Call.callee c.from.result c.functions.result.now (record { params = 0; regs = 0; len = 0 }) c.requires.kept s c.in-Call.is c.functions.ensures.functions c.from.ensures in
    k.low

pub returns-in_ok-push : goal.returns-in_ok-push
returns-in_ok-push c =
    let l = c.args.lowering.now in
    let s : Stands l c.args.function c.args.instr = record { pc = c.args.pc; inside = c.requires.body; there = c.requires.there } in
    let fn : entry.Function = get_or c.functions.result.now c.from.result (record { params = 0; regs = 0; len = 0 }) in
    let k = called l c.args.function c.args.instr c.in-Call.to c.in-Call.first c.in-Call.callee c.from.result c.functions.result.now (record { params = 0; regs = 0; len = 0 }) c.requires.kept s c.in-Call.is c.functions.ensures.functions c.from.ensures in
    call_more l c.args.function c.args.pc c.in-Call.to c.in-Call.first c.in-Call.callee c.returned.result c.args.instr fn c.args.owed.now.items c.push_passed.new.owed.items c.push.new.self.items
    c.requires.kept c.requires.body c.requires.there c.in-Call.is k.in_table k.arguments c.returned.ensures.returned c.in_ok-push_passed.ensures c.in_ok-push.ensures.items

pub returns-in_ok-push-2 : goal.returns-in_ok-push-2
returns-in_ok-push-2 c =
    plain_more c.args.lowering.now c.args.function c.args.pc c.args.instr c.in-Some.flow c.args.owed.now.items c.push-in-Some.new.self.items
    c.requires.kept c.requires.body c.requires.there (λ a b g e. c.in_default.not-Call a b g e)
    (ap (λ (n : ℕ). plain_flow n c.args.function c.args.instr) (sym c.globals.ensures.globals) ∙ sym c.plain_flow.ensures ∙ c.in-Some.is) c.in_ok-push-2.ensures.items

pub returns-in_default-plain_flow : goal.returns-in_default-plain_flow
returns-in_default-plain_flow c =
    none_more c.args.lowering.now c.args.function c.args.pc c.args.instr c.args.owed.now.items
    c.requires.kept c.requires.body c.requires.there (λ a b g e. c.in_default.not-Call a b g e)
    (ap (λ (n : ℕ). plain_flow n c.args.function c.args.instr) (sym c.globals.ensures.globals) ∙ sym c.plain_flow.ensures ∙ c.in_default-plain_flow.is)
