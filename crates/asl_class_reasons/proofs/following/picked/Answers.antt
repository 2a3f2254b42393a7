use Rattle.std.proofs.Common.{◌≡◌, List, [], ◌∷◌, ◌++◌, length, take, refl, sym, subst, arith}
use Rattle.asl_class_reasons.specs.declared.place.Place.{Place}
use Rattle.asl_class_reasons.specs.declared.place.Step.{Step}
use Rattle.asl_class_reasons.specs.declared.place.Link.{Link}
use Rattle.asl_class_reasons.specs.Reasons.{IsChain, AreReasonedBy}
use Rattle.asl_class_reasons.proofs.StraightChains.{one_reasoned}
use Rattle.asl_class_reasons.proofs.Followed.{chain_put_at}
use Rattle.asl_class_reasons.proofs.following.picked.Goals as goal

pub loop-number-preserved : goal.loop-number-preserved
loop-number-preserved c =
    let i = c.loop-number.invariant in
    let es : List Step = c.loop-number.steps.items in
    let s : Step = c.in-Some.step in
    let next : Place = c.in-Some-other_end.next in
    let fs : List Step = es ++ s ∷ [] in
    let ok = c.loop-number.steps.ok.0 in
    let count : c.len.result ≡ length es = omega (arith, c.len.ensures) in
    record {
      reasoned = λ p reasons h. subst (λ (xs : List Step). AreReasonedBy p (take c.args.before reasons) xs) (sym c.in_ok-push-2.ensures.items) (one_reasoned p (take c.args.before reasons) es s (i.reasoned p reasons h) (c.in-Some.ensures p reasons h));
      chain = (
          let more = chain_put_at es s c.loop-number.links.items c.args.from c.loop-number.at next c.len.result count i.chain c.in-Some-other_end.ensures in
          subst (λ (xs : List Step). IsChain xs c.args.from c.push.new.self.items next) (sym c.in_ok-push-2.ensures.items)
          (subst (λ (ks : List Link). IsChain fs c.args.from ks next) (sym c.in_ok-push.ensures.items) more));
    }

pub returns : goal.returns
returns c = λ l reasons h apart. record {
  apart = apart;
  reasoned = c.loop-number.invariant.reasoned l reasons h;
  chain = subst (λ (p : Place). IsChain c.loop-number.steps.items c.args.from c.loop-number.links.items p) (c.if-not-is_at.ensures refl) c.loop-number.invariant.chain;
}
