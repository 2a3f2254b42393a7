use Rattle.std.proofs.Common.{List, inl, inr, refl, sym, subst, arith, rules}
use Rattle.asl_class_reasons.specs.declared.place.Place.{Place}
use Rattle.asl_class_text.specs.declared.told.ToldGround.{ToldGround}
use Rattle.asl_class_text.specs.Grounds.{Tells}
use Rattle.asl_class_text.proofs.grounds.push_ground.Goals as goal

pub returns : goal.returns
returns c =
    let one : Place = c.address_of-one.result in
    let other : Place = c.address_of-other.result in
    inr (inr (record {
      ground = record { one = one; other = other; chain = c.in_ok-chain.chain };
      grows = c.in_ok-push.ensures.items;
      more = refl;
      room = omega (arith, c.if-len-most.false, c.len.ensures);
      cells = search rules;
      one = c.address_of-one.ensures;
      other = c.address_of-other.ensures;
      two = search rules;
      chain = c.in_ok-chain.ensures;
      untold = λ t. c.is_told.ensures.no c.if-is_told.false (subst (λ (gs : List ToldGround). Tells gs one other) (sym c.deref.ensures.value) t);
    }))
