use Rattle.std.proofs.Common.{rules, ◌≡◌, Vec, Global, ℕ, Option, IfSome, sym, subst}
use Rattle.asl_backward_flow.specs.Needed.{region_of}
use Rattle.asl_explain.specs.Chains.{Stays, Here}
use Rattle.asl_explain.specs.Analysed.{read, AreEach, IsStop}
use Rattle.asl_explain.proofs.Walking.{each_less, each_none, stop_on}
use Rattle.asl_explain.proofs.walk.is_reached.Goals as goal
use Rattle.asl_explain.proofs.walk.is_reached.Goals.{in-Some+else-stop-to+in_ok-go_on, in_default}

pub loop-init : goal.loop-init
loop-init c = record { here = Here; waiting = each_none (Stays (read c.args.analysis.now) (region_of c.args.span.region) c.args.lock.now c.args.from) _ c.new-waiting.ensures.items }

pub returns-then-stop-to : goal.returns-then-stop-to
returns-then-stop-to c = λ t.
    let x = read c.args.analysis.now in
    let stop : IsStop x c.args.span c.args.lock.now c.loop.pc c.in-Some.stop = subst (λ (o : Option ℕ). IfSome o (IsStop x c.args.span c.args.lock.now c.loop.pc)) c.in-Some.is c.in_ok-stop.ensures in
    let same : c.in-Some.stop ≡ c.args.to = search (rules, c.if-stop-to.true) in
    subst (Stays x (region_of c.args.span.region) c.args.lock.now c.args.from) same (stop_on x c.args.span c.args.lock.now c.args.from c.loop.pc c.in-Some.stop c.loop.invariant.here stop).stays

pub loop-preserved : goal.loop-preserved
loop-preserved c =
    let x = read c.args.analysis.now in
    let Holds : ℕ → Type 0 = Stays x (region_of c.args.span.region) c.args.lock.now c.args.from in
    let each : AreEach Holds c.match-branch-2.waiting.items = elim c.match-branch-2.branch [
      | in-Some+else-stop-to+in_ok-go_on w ↦
          (let stop : IsStop x c.args.span c.args.lock.now c.loop.pc w.in-Some.stop = subst (λ (o : Option ℕ). IfSome o (IsStop x c.args.span c.args.lock.now c.loop.pc)) w.in-Some.is c.in_ok-stop.ensures in
          subst (λ (v : Vec ℕ Global). AreEach Holds v.items) (sym w.waiting-is)
          (w.in_ok-go_on.ensures c.args.from (stop_on x c.args.span c.args.lock.now c.args.from c.loop.pc w.in-Some.stop c.loop.invariant.here stop) c.loop.invariant.waiting))
      | in_default w ↦ subst (λ (v : Vec ℕ Global). AreEach Holds v.items) (sym w.waiting-is) c.loop.invariant.waiting
    ] in
    let less = each_less Holds c.match-branch-2.waiting.items c.pop.new.self.items c.in-Some-pop.next c.in-Some-pop.ensures.items each in
    record { here = less.1; waiting = less.0 }
