use Rattle.std.proofs.Common.{ap, refl}
use Rattle.asl_machine.specs.View.{Configuration}
use Rattle.asl_journal.proofs.Differences.{only_memory_at}
use Rattle.asl_journal.proofs.journal_replay.follow.Goals as goal

pub returns-clause-only : goal.returns-clause-only
returns-clause-only g c end leads =
    let from = c.args.from.now in
    let copied = c.in_ok-machine.ensures.equal in
    only_memory_at c.in_ok-machine.machine c.args.events.now from.image from.state end c.args.events.now c.run_on.result (ap (λ (m : Configuration). m.image) copied) (ap (λ (m : Configuration). m.state) copied) refl
    leads c.run_on.ensures.refused
