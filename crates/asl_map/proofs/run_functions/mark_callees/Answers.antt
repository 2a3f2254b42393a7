use Rattle.std.proofs.Common.{ℕ, ◌+◌, ◌<◌, Bool, true, List, length, sym, ap, subst, arith}
use Rattle.std.proofs.lemmas.List.{length-set}
use Rattle.asl_lower.specs.Reach.{Anywhere, IsSuchCall}
use Rattle.asl_lower.proofs.Reaching.{AreCallees, callee_there, callees_begin, callees_more, callees_same, callees_end}
use Rattle.asl_map.proofs.Calls.{stands_at, no_call_at}
use Rattle.asl_map.proofs.run_functions.mark_callees.Goals as goal
use Rattle.asl_map.proofs.run_functions.mark_callees.Goals.{in-Some, in_default}

pub bounds-marks-from : goal.bounds-marks-from
bounds-marks-from c =
    let l = c.args.lowering.now in
    let lay = c.code-code.ensures.kept.layout in
    let k = c.in-Some.ensures in
    let low : c.loop-pc.pc < length c.code-code.result.now = omega (arith, c.loop-pc-test.true, c.requires.within, ap length c.code-code.ensures.code) in
    let stands = stands_at l.code c.code-code.result.now c.loop-pc.pc _ _ c.code-code.ensures.code low k.1.1 in
    omega (arith, callee_there l lay c.loop-pc.pc c.in-Some.callee (k.0, k.1.0, stands), lay.limits.few_functions, c.from.ensures)

pub loop-pc-init : goal.loop-pc-init
loop-pc-init c = callees_begin c.args.lowering.now Anywhere c.args.from c.args.marks.now

pub loop-pc-preserved : goal.loop-pc-preserved
loop-pc-preserved c =
    let l = c.args.lowering.now in
    let lay = c.code-code.ensures.kept.layout in
    let pc : ℕ = c.loop-pc.pc in
    let low : pc < length c.code-code.result.now = omega (arith, c.loop-pc-test.true, c.requires.within, ap length c.code-code.ensures.code) in
    elim c.match-callee.branch [
      | in-Some w ↦
          let k = w.in-Some.ensures in
          let stands = stands_at l.code c.code-code.result.now pc _ _ c.code-code.ensures.code low k.1.1 in
          let few = callee_there l lay pc w.in-Some.callee (k.0, k.1.0, stands) in
          let there : w.from.result < length c.loop-pc.marks = omega (arith, length-set c.loop-pc.marks w.from.result true, ap (length {A = Bool}) w.marks-is, c.match-callee.array_long, few, lay.limits.few_functions, w.from.ensures) in
          let P : ℕ → Type 0 = λ n. IsSuchCall l Anywhere pc n in
          callees_more l Anywhere c.args.from pc w.from.result c.args.marks.now c.loop-pc.marks c.match-callee.marks c.loop-pc.auto.pc (subst P (sym w.from.ensures) (record { stands = (k.0, k.1.0, stands); depth = tt })) there w.marks-is c.loop-pc.invariant
      | in_default w ↦
          let P : List Bool → Type 0 = λ marks. AreCallees l Anywhere c.args.from (pc + 1) c.args.marks.now marks in
          subst P (sym w.marks-is) (callees_same l Anywhere c.args.from pc c.args.marks.now c.loop-pc.marks (no_call_at l c.code-code.result.now pc _ c.code-code.ensures.code low w.in_default.ensures) c.loop-pc.invariant)
    ]

pub returns : goal.returns
returns c =
    let a = callees_end c.args.lowering.now Anywhere c.args.from c.loop-pc.pc c.args.end c.args.marks.now c.loop-pc.marks (c.loop-pc.auto.pc-end c.requires.order) c.loop-pc-test.false c.loop-pc.invariant in
    record { kept = a.kept; called = a.called; only = a.only }
