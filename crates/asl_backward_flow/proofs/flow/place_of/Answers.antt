use Rattle.std.proofs.Common.{rules, ◌≡◌, ◌∙◌, ◌<◌, Some, length, slice_get, ap, sym, arith}
use Rattle.std.proofs.lemmas.Option.{slice_get-get_or, slice_get_within}
use Rattle.asl_lower.specs.Regions.{Inside}
use Rattle.asl_backward_flow.specs.Needed.{region_of}
use Rattle.asl_backward_flow.specs.Parts.{part}
use Rattle.asl_backward_flow.specs.declared.region_needs.RegionNeeds as code
use Rattle.asl_backward_flow.proofs.Sets.{some_same}
use Rattle.asl_backward_flow.proofs.Blanks.{unmapped}
use Rattle.asl_backward_flow.proofs.SetNeeds.{mapped_at}
use Rattle.asl_backward_flow.proofs.Listing.{region_one}
use Rattle.asl_backward_flow.proofs.flow.place_of.Goals.{else-place-parts-via-then-place-parts+else-eq, else-place-parts-via-else-place-parts}
use Rattle.asl_backward_flow.proofs.flow.place_of.Goals as goal

pub returns-then-eq : goal.returns-then-eq
returns-then-eq c =
    let same : c.index-parts-place.result.region ≡ c.args.region = search (rules, c.if-eq.true) in (
      part c.index-parts-place.result,
      mapped_at part c.args.parts.now c.likely_place-place.result c.index-parts-place.result
          (slice_get-get_or c.args.parts.now c.likely_place-place.result c.index-parts-place.result c.if-place-parts.true ∙ ap Some (sym c.index-parts-place.is)),
      ap region_of same,
    )

pub returns-in-Section : goal.returns-in-Section
returns-in-Section c = λ k p at same.
    let is : region_of c.args.region ≡ Inside c.in-Section.field-0 = ap region_of c.in-Section.is in
    let first : k ≡ c.in-Section.field-0 = c.requires k c.in-Section.field-0 p at (same ∙ is) in
    let place : c.likely_place-place.result ≡ c.in-Section.field-0 = c.likely_place-place.ensures c.in-Section.field-0 is in
    let here = unmapped part c.args.parts.now k p at in
    let within : k < length c.args.parts.now = slice_get_within c.args.parts.now k here.0 here.1 in
    let region : here.0.region ≡ c.args.region = region_one here.0.region c.args.region (ap (λ q. q.region) here.2 ∙ same) in
    elim c.else-place-parts.branch [
      | else-place-parts-via-then-place-parts+else-eq w ↦
          let stands = slice_get-get_or c.args.parts.now c.likely_place-place.result w.index-parts-place.result w.if-place-parts.true ∙ ap Some (sym w.index-parts-place.is) in
          let one : here.0 ≡ w.index-parts-place.result = some_same (sym here.1 ∙ ap (slice_get c.args.parts.now) (first ∙ sym place) ∙ stands) in
          let own : w.index-parts-place.result.region ≡ c.args.region = ap (λ (q : code.RegionNeeds). q.region) (sym one) ∙ region in
          search (rules, w.if-eq.false, own)
      | else-place-parts-via-else-place-parts w ↦ absurd (omega (arith, w.if-place-parts.false, within, first, place))
    ]
