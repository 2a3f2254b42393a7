use Rattle.std.proofs.Common.{◌≡◌, false, length, ap, sym, ◌∙◌, arith}
use Rattle.asl_machine.specs.State.{Activity, activity_at}
use Rattle.asl_machine.specs.View.{Configuration}
use Rattle.asl_journal.specs.Recorded.{has_ended}
use Rattle.asl_journal.proofs.Recordings.{no_activity}
use Rattle.asl_runner.proofs.Unended.{still_running}
use Rattle.asl_runner.proofs.locked.Locked.step.Goals as goal

pub pc-requires : goal.pc-requires
pc-requires g c =
    let old = c.args.self.now in
    let count = ap (λ (m : Configuration). length m.state.threads) c.machine.ensures.machine ∙ c.machine.ensures.threads ∙ old.named.1 in
    omega (arith, count, c.from-t.ensures, c.requires)

pub invariant_of-self : goal.invariant_of-self
invariant_of-self g c =
    let old = c.args.self.now in
    let told = no_activity (λ (activity : Activity). activity.top.pc) (activity_at c.machine.result.now.state.threads c.from-t.result) c.pc.result c.is_none.result c.pc.ensures c.is_none.ensures in
    let runs : has_ended old.journaled.state c.from-t.result ≡ false =
    ap (λ (m : Configuration). has_ended m.state c.from-t.result) (sym c.machine.ensures.machine) ∙ sym told ∙ c.if-is_none.false in
    record {
      named = (c.step.ensures.image ∙ old.named.0, c.step.ensures.count ∙ old.named.1);
      running = still_running old.journaled c.step.new.self c.from-t.result c.step.result runs c.step.ensures.event c.step.ensures.step c.step.ensures.err old.running;
    }
