use Rattle.std.proofs.Common.{◌+◌, refl, sym, subst}
use Rattle.asl_class_reasons.specs.declared.place.Place.{Place}
use Rattle.asl_class_text.proofs.Chaining.{Along, along_more}
use Rattle.asl_class_text.proofs.chain.told_chain.Goals as goal

pub loop-link-preserved : goal.loop-link-preserved
loop-link-preserved c =
    subst (λ (p : Place). Along c.args.steps.now c.args.from c.args.links.now c.args.into p (c.loop-link.link-index + 1) c.push.new.self.items) (sym c.end_of-at.ensures)
    (along_more _ _ _ _ _ _ _ _ _ _ c.in-Some.told c.loop-link-test.true refl c.in-Some.ensures.told c.in_ok-push.ensures.items c.loop-link.invariant)
