use Rattle.std.proofs.Common.{◌≡◌, ◌<◌, ◌++◌, ◌∷◌, [], List, ap, ◌∙◌, arith}
use Rattle.std.proofs.lemmas.List.{length_push}
use Rattle.std.proofs.lemmas.List.Elements.{All-push}
use Rattle.asl_journal.specs.declared.event.Event.{Event}
use Rattle.asl_journal.proofs.journal.Journal.step.Goals as goal

pub invariant_of-self-2 : goal.invariant_of-self-2
invariant_of-self-2 g c =
    let old = c.self.invariant in
    let event : Event = record { thread = c.args.t; reply = c.in_ok-reply.reply } in
    let before = c.self.inside.events.items in
    let items : c.push_reserved.new.self.items ≡ before ++ event ∷ [] = c.push_reserved.ensures.items ∙ ap (λ (es : List Event). es ++ event ∷ []) c.in_ok-reserve.ensures.items in
    rw items (record {
      count = old.count;
      short = omega (arith, length_push before event);
      there = All-push (λ (e : Event). e.thread < c.self.inside.threads) before event old.there (omega arith);
    })
