use Rattle.std.proofs.Common.{◌≡◌, ℕ, ◌+◌, ◌-◌, ◌<◌, Some, length, get_or, sym, ap, ◌∙◌, subst, arith}
use Rattle.asl_code.specs.declared.image.Function as entry
use Rattle.asl_code.specs.declared.instr.Instr.{Instr}
use Rattle.asl_code.specs.declared.instr.Instr.TheVariants as instr
use Rattle.asl_lower.specs.Lowered.{Lowered}
use Rattle.asl_lower.specs.OpenSections.{start_of, returned}
use Rattle.asl_lower.specs.Facts.{HasLayout}
use Rattle.asl_lower.specs.LegalLowering.{lowered_of}
use Rattle.asl_lower.proofs.Reaching.{read_at}
use Rattle.asl_lower.proofs.Told.{EndsBody, body_ends, returned_each}
use Rattle.asl_lower.proofs.lowering.Lowering.returned.Goals as goal

-- where the body of a function ends that is read from the table
ends : (l m : Lowered) → HasLayout l → l ≡ m → (function number start : ℕ) (f : entry.Function) → number ≡ function → function < length m.functions → f ≡ get_or l.functions number f → start ≡ start_of l.functions number → EndsBody l number start f.len
ends l m lay same function number start f n low is s =
    let there : number < length l.functions = omega (arith, low, n, ap (λ (x : Lowered). length x.functions) same) in
    body_ends l lay number start f (read_at l.functions number f there is) s

-- what is read at its last place
last_is : (l : Lowered) (number start len : ℕ) (i : Instr) → EndsBody l number start len → i ≡ get_or l.code (start + len - 1) i → i ≡ instr.Return (returned l number)
last_is l number start len i e is =
    let read = read_at l.code (start + len - 1) i (omega (arith, e.some, e.within)) is in
    let q : Some i ≡ Some (instr.Return (returned l number)) = sym read ∙ e.stands in
    cc

pub start-requires-clause-layout : goal.start-requires-clause-layout
start-requires-clause-layout c = c.self.invariant.layout

pub overflow_add-end : goal.overflow_add-end
overflow_add-end c =
    let l = lowered_of c.self.inside.draft in
    let e = ends l c.args.self.now c.self.invariant.layout c.self.view_is c.args.function c.from-number.result c.start.result c.index.result.now c.from-number.ensures c.requires c.index.ensures c.start.ensures in
    omega (arith, e.within, c.self.invariant.size)

pub overflow_sub-end : goal.overflow_sub-end
overflow_sub-end c =
    let l = lowered_of c.self.inside.draft in
    (ends l c.args.self.now c.self.invariant.layout c.self.view_is c.args.function c.from-number.result c.start.result c.index.result.now c.from-number.ensures c.requires c.index.ensures c.start.ensures).some

pub index-requires-2 : goal.index-requires-2
index-requires-2 c =
    let l = lowered_of c.self.inside.draft in
    let e = ends l c.args.self.now c.self.invariant.layout c.self.view_is c.args.function c.from-number.result c.start.result c.index.result.now c.from-number.ensures c.requires c.index.ensures c.start.ensures in
    omega (arith, e.some, e.within, c.self.inside.draft.out.code.ok.0)

pub unreachable-requires : goal.unreachable-requires
unreachable-requires c =
    let l = lowered_of c.self.inside.draft in
    let e = ends l c.args.self.now c.self.invariant.layout c.self.view_is c.args.function c.from-number.result c.start.result c.index.result.now c.from-number.ensures c.requires c.index.ensures c.start.ensures in
    let is = last_is l c.from-number.result c.start.result c.index.result.now.len c.index-2.result.now e c.index-2.ensures in
    c.in_default.not-Return (returned l c.from-number.result) is

-- the register that was read is the one that the function returns
read_is : (l m : Lowered) (function number from : ℕ) (i : Instr) → l ≡ m → number ≡ function → i ≡ instr.Return from → i ≡ instr.Return (returned l number) → from ≡ returned m function
read_is l m function number from i same n e is =
    let r : from ≡ returned l number = (let q : instr.Return from ≡ instr.Return (returned l number) = sym e ∙ is in cc) in
    r ∙ ap (returned l) n ∙ ap (λ (x : Lowered). returned x function) same

pub returns-clause-returned : goal.returns-clause-returned
returns-clause-returned c =
    let l = lowered_of c.self.inside.draft in
    let e = ends l c.args.self.now c.self.invariant.layout c.self.view_is c.args.function c.from-number.result c.start.result c.index.result.now c.from-number.ensures c.requires c.index.ensures c.start.ensures in
    let is = last_is l c.from-number.result c.start.result c.index.result.now.len c.index-2.result.now e c.index-2.ensures in
    read_is l c.args.self.now c.args.function c.from-number.result c.in-Return.from c.index-2.result.now c.self.view_is c.from-number.ensures c.in-Return.is is

pub returns-clause-each : goal.returns-clause-each
returns-clause-each c pc from body stands =
    let l = lowered_of c.self.inside.draft in
    let m = c.args.self.now in
    let e = ends l m c.self.invariant.layout c.self.view_is c.args.function c.from-number.result c.start.result c.index.result.now c.from-number.ensures c.requires c.index.ensures c.start.ensures in
    let is = last_is l c.from-number.result c.start.result c.index.result.now.len c.index-2.result.now e c.index-2.ensures in
    let r = read_is l m c.args.function c.from-number.result c.in-Return.from c.index-2.result.now c.self.view_is c.from-number.ensures c.in-Return.is is in
    returned_each m (subst HasLayout c.self.view_is c.self.invariant.layout) c.args.function pc from body stands ∙ sym r
