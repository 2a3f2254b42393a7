use Rattle.std.proofs.Common.{◌<◌, arith}
use Rattle.std.proofs.lemmas.List.{length-take}
use Rattle.std.proofs.lemmas.List.Elements.{All-take}
use Rattle.asl_journal.specs.declared.event.Event.{Event}
use Rattle.asl_journal.proofs.journal.Journal.cut.Goals as goal

pub invariant_of-self : goal.invariant_of-self
invariant_of-self c =
    let old = c.self.invariant in
    let items = c.self.inside.events.items in
    let short = old.short in
    rw c.truncate.ensures.items (record {
      count = old.count;
      short = omega (arith, length-take c.args.k items, short);
      there = All-take (λ (e : Event). e.thread < c.self.inside.threads) c.args.k items old.there;
    })
