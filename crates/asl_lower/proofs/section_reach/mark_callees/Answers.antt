use Rattle.std.proofs.Common.{ℕ, ◌+◌, ◌<◌, Bool, true, List, length, Some, sym, ap, ◌∙◌, subst, arith}
use Rattle.std.proofs.lemmas.List.{length-set}
use Rattle.asl_lower.specs.LegalLowering.{lowered_of}
use Rattle.asl_lower.specs.Reach.{where_of}
use Rattle.asl_lower.specs.Reach.{IsSuchCall}
use Rattle.asl_lower.proofs.Depths.{IsDepth, depth_more}
use Rattle.asl_lower.proofs.Reaching.{AreCallees, callee_there, callees_begin, callees_more, callees_same, callees_end, such_call, no_such_call, read_at}
use Rattle.asl_lower.proofs.section_reach.mark_callees.Goals as goal
use Rattle.asl_lower.proofs.section_reach.mark_callees.Goals.{in-Some, in_default}

pub bounds-marks-from : goal.bounds-marks-from
bounds-marks-from c =
    let l = lowered_of c.args.draft.now in
    let low : c.loop-pc.pc < length l.code = omega (arith, c.loop-pc-test.true, c.requires.within, c.args.draft.now.out.code.ok.0) in
    let stands = read_at l.code c.loop-pc.pc c.index-instr.result.now low c.index-instr.ensures in
    let k = c.in-Some.ensures in
    let there = callee_there l c.requires.layout c.loop-pc.pc c.in-Some.callee (k.1.0, k.1.1.0, stands ∙ ap Some k.1.1.1) in
    omega (arith, there, c.requires.layout.limits.few_functions, c.from.ensures)

pub loop-pc-init : goal.loop-pc-init
loop-pc-init c =
    let l = lowered_of c.args.draft.now in
    record {
      depth = record { count = sym (ap length c.requires.none_open); bound = omega arith };
      callees = callees_begin l (where_of c.args.calls) c.args.from c.args.marks.now;
    }

pub loop-pc-preserved : goal.loop-pc-preserved
loop-pc-preserved c =
    let l = lowered_of c.args.draft.now in
    let pc : ℕ = c.loop-pc.pc in
    let i = c.index-instr.result.now in
    let low : pc < length l.code = omega (arith, c.loop-pc-test.true, c.requires.within, c.args.draft.now.out.code.ok.0) in
    let stands = read_at l.code pc i low c.index-instr.ensures in
    let d : IsDepth l.code pc c.loop-pc.depth = c.loop-pc.invariant.depth in
    record {
      depth = depth_more l.code pc c.loop-pc.depth c.depth_after-depth.result i stands d c.depth_after-depth.ensures;
      callees = elim c.match-callee.branch [
        | in-Some w ↦
            let k = w.in-Some.ensures in
            let few = callee_there l c.requires.layout pc w.in-Some.callee (k.1.0, k.1.1.0, stands ∙ ap Some k.1.1.1) in
            let there : w.from.result < length c.loop-pc.marks = omega (arith, length-set c.loop-pc.marks w.from.result true, ap (length {A = Bool}) w.marks-is, c.match-callee.array_long, few, c.requires.layout.limits.few_functions, w.from.ensures) in
            let call = such_call l (where_of c.args.calls) pc c.loop-pc.depth k.1.0 k.1.1.0 w.in-Some.callee i stands d k.0 k.1.1.1 in
            let P : ℕ → Type 0 = λ n. IsSuchCall l (where_of c.args.calls) pc n in
            callees_more l (where_of c.args.calls) c.args.from pc w.from.result c.args.marks.now c.loop-pc.marks c.match-callee.marks c.loop-pc.auto.pc (subst P (sym w.from.ensures) call) there w.marks-is c.loop-pc.invariant.callees
        | in_default w ↦
            let P : List Bool → Type 0 = λ marks. AreCallees l (where_of c.args.calls) c.args.from (pc + 1) c.args.marks.now marks in
            subst P (sym w.marks-is) (callees_same l (where_of c.args.calls) c.args.from pc c.args.marks.now c.loop-pc.marks (no_such_call l (where_of c.args.calls) pc c.loop-pc.depth i stands d w.in_default.ensures) c.loop-pc.invariant.callees)
      ];
    }

pub returns : goal.returns
returns c =
    let l = lowered_of c.args.draft.now in
    let a = callees_end l (where_of c.args.calls) c.args.from c.loop-pc.pc c.args.end c.args.marks.now c.loop-pc.marks (c.loop-pc.auto.pc-end c.requires.order) c.loop-pc-test.false c.loop-pc.invariant.callees in
    record { kept = a.kept; called = a.called; only = a.only }
