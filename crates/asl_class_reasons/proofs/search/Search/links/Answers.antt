use Rattle.std.proofs.Common.{◌≡◌, ◌<◌, ℕ, List, Some, slice_get, sym, ap, subst, arith}
use Rattle.std.specs.Prelude.{reverse}
use Rattle.asl_class_reasons.specs.declared.place.Link.{Link}
use Rattle.asl_class_reasons.specs.declared.search.Visit.{Visit}
use Rattle.asl_class_reasons.specs.declared.search.Search.{Search}
use Rattle.asl_class_reasons.specs.Reasons.{IsChain}
use Rattle.asl_class_reasons.proofs.Searching.{reads}
use Rattle.asl_class_reasons.proofs.Chaining.{one_visit, walked, goes_back}
use Rattle.asl_class_reasons.proofs.search.Search.links.Goals as goal

pub loop-at-init : goal.loop-at-init
loop-at-init c = record {
  low = c.requires.there;
  chain = λ steps u v h eu ev. subst (λ (ks : List Link). IsChain steps u.place (reverse ks) v.place) (sym c.new-links.ensures.items) (ap (λ (x : Visit). x.place) (one_visit c.args.self.now.visits.items c.args.visit u v eu ev));
}

pub loop-at-preserved : goal.loop-at-preserved
loop-at-preserved c =
    let t : Search = c.args.self.now in
    let at : ℕ = c.loop-at.at in
    let here : Visit = c.index-here.result.now in
    let i = c.loop-at.invariant in
    let some : 0 < at = (let test = c.loop-at-test.true in omega arith) in
    let e : slice_get t.visits.items at ≡ Some here = reads t.visits.items at here i.low c.index-here.ensures in
    let back : here.before < at = goes_back t at here c.requires.shaped some e in
    record {
      low = (let low = i.low in omega arith);
      chain = λ steps u v h eu ev. walked steps t at here u c.loop-at.links.items c.push.new.self.items v.place h some e eu c.in_ok-push.ensures.items (i.chain steps here v h e ev);
    }

pub loop-at-smaller : goal.loop-at-smaller
loop-at-smaller c =
    let t : Search = c.args.self.now in
    let at : ℕ = c.loop-at.at in
    let here : Visit = c.index-here.result.now in
    let some : 0 < at = (let test = c.loop-at-test.true in omega arith) in
    let e : slice_get t.visits.items at ≡ Some here = reads t.visits.items at here c.loop-at.invariant.low c.index-here.ensures in
    goes_back t at here c.requires.shaped some e
