use Rattle.std.proofs.Common.{rules, ◌≡◌, ◌∙◌, ◌<◌, Some, length, ap, sym, arith}
use Rattle.std.proofs.lemmas.Option.{slice_get-get_or, slice_get_within}
use Rattle.asl_backward_flow.specs.Needed.{region_of}
use Rattle.asl_backward_flow.specs.Parts.{part}
use Rattle.asl_backward_flow.proofs.Blanks.{unmapped}
use Rattle.asl_backward_flow.proofs.SetNeeds.{mapped_at}
use Rattle.asl_backward_flow.proofs.Listing.{region_one}
use Rattle.asl_backward_flow.proofs.flow.search.Goals as goal

pub returns-then-eq : goal.returns-then-eq
returns-then-eq c =
    let same : c.index-parts-place.result.region ≡ c.args.region = search (rules, c.if-eq.true) in (
      part c.index-parts-place.result,
      mapped_at part c.args.parts.now c.loop-place.place c.index-parts-place.result
          (slice_get-get_or c.args.parts.now c.loop-place.place c.index-parts-place.result c.loop-place-test.true ∙ ap Some (sym c.index-parts-place.is)),
      ap region_of same,
    )

pub returns : goal.returns
returns c = λ k p at same.
    let here = unmapped part c.args.parts.now k p at in
    let within : k < length c.args.parts.now = slice_get_within c.args.parts.now k here.0 here.1 in
    let before : k < c.loop-place.place = omega (arith, within, c.loop-place-test.false) in
    c.loop-place.invariant k here.0 before here.1 (region_one here.0.region c.args.region (ap (λ q. q.region) here.2 ∙ same))
