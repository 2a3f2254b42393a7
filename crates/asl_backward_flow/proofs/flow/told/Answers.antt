use Rattle.std.proofs.Common.{rules, ◌≡◌, ◌+◌, ◌∙◌, Vec, Global, List, [], map, Some, ap, sym, arith}
use Rattle.std.proofs.lemmas.List.{length-map}
use Rattle.std.proofs.lemmas.Option.{slice_get-get_or}
use Rattle.asl_backward_flow.specs.Needed.{region_of}
use Rattle.asl_backward_flow.specs.Parts.{part, IsToldAt}
use Rattle.asl_backward_flow.proofs.SetNeeds.{mapped_at}
use Rattle.asl_backward_flow.proofs.Listing.{lists_more, lists_skip, part_here, part_elsewhere, parts_all, listed_same, region_one}
use Rattle.asl_backward_flow.proofs.flow.told.Goals.{then-eq+in_ok-add_needed, else-eq}
use Rattle.asl_backward_flow.proofs.flow.told.Goals as goal

abbrev vec_items : {A : Type 0} → Vec A Global → List A
vec_items v = v.items

pub loop-part-preserved : goal.loop-part-preserved
loop-part-preserved c =
    let at = mapped_at part c.candidates-candidates.result.now c.loop-part.part-index _
    (slice_get-get_or c.candidates-candidates.result.now c.loop-part.part-index c.part-item.result c.loop-part-test.true ∙ ap Some (sym c.part-item.is)) in
    elim c.if-eq.branch [
      | then-eq+in_ok-add_needed w ↦
          let same : c.part-item.result.region ≡ c.args.region = search (rules, w.if-eq.true) in
          listed_same (IsToldAt (map part c.candidates-candidates.result.now) (region_of c.args.region) c.args.pc) [] (c.loop-part.part-index + 1) _ _ (ap vec_items w.locks-is) w.in_ok-add_needed.ensures.order
          (lists_more (IsToldAt (map part c.candidates-candidates.result.now) (region_of c.args.region) c.args.pc) [] c.loop-part.part-index c.loop-part.locks.items w.add_needed.new.locks.items c.loop-part.invariant.locks
          (part_here (map part c.candidates-candidates.result.now) (region_of c.args.region) c.args.pc c.loop-part.part-index _ at (ap region_of same) c.loop-part.locks.items w.add_needed.new.locks.items w.in_ok-add_needed.ensures.locks))
      | else-eq w ↦
          let not : ¬ (c.part-item.result.region ≡ c.args.region) = search (rules, w.if-eq.false) in
          listed_same (IsToldAt (map part c.candidates-candidates.result.now) (region_of c.args.region) c.args.pc) [] (c.loop-part.part-index + 1) _ _ (ap vec_items w.locks-is) c.loop-part.invariant.order
          (lists_skip (IsToldAt (map part c.candidates-candidates.result.now) (region_of c.args.region) c.args.pc) [] c.loop-part.part-index c.loop-part.locks.items c.loop-part.invariant.locks
          (part_elsewhere (map part c.candidates-candidates.result.now) (region_of c.args.region) c.args.pc c.loop-part.part-index _ at (λ e. not (region_one _ _ e))))
    ]

pub returns-clause-locks : goal.returns-clause-locks
returns-clause-locks c m =
    let past = c.loop-part-test.false in
    let all = parts_all (map part c.candidates-candidates.result.now) (region_of c.args.region) c.args.pc c.loop-part.part-index c.loop-part.locks.items
    (omega (arith, past, length-map c.candidates-candidates.result.now part)) c.loop-part.invariant.locks m in
    let same = c.candidates-candidates.ensures c.args.pc m in
    (λ h. same.0 (all.0 h), λ h. all.1 (same.1 h))
