use Rattle.std.proofs.Common.{◌<◌, List, Some, length, map, slice_get, slice_set, refl, sym, subst, ap, ◌∙◌, arith}
use Rattle.std.proofs.lemmas.List.{length-map}
use Rattle.asl_code.specs.declared.lock.Lock.{Lock}
use Rattle.asl_lock_expr.specs.LinksView.{seen as seen_by}
use Rattle.asl_backward_flow.specs.declared.region_needs.RegionNeeds.{RegionNeeds}
use Rattle.asl_backward_flow.specs.declared.masks.Mask.{Mask}
use Rattle.asl_backward_flow.specs.declared.masks.Masks.{Masks}
use Rattle.asl_backward_flow.specs.Found.{table}
use Rattle.asl_backward_flow.specs.Follows.{read}
use Rattle.asl_backward_flow.specs.Masked.{AreAllMasks}
use Rattle.asl_backward_flow.proofs.Each.{no_span}
use Rattle.asl_backward_flow.proofs.Splitting.{stays_ok}
use Rattle.asl_backward_flow.proofs.SetNeeds.{mapped_at}
use Rattle.asl_backward_flow.proofs.Masking.{masks_of, masks_back, on_more}
use Rattle.asl_backward_flow.proofs.Points.{stands_at}
use Rattle.asl_backward_flow.proofs.ReplacedLists.{map_set}
use Rattle.asl_backward_flow.proofs.Tables.{locks_before}
use Rattle.asl_backward_flow.proofs.needs_step.touched_at.Goals as goal

abbrev items_of : Masks → List Mask
items_of v = v.list.items

pub find_touched-requires : goal.find_touched-requires
find_touched-requires c =
    let there = stands_at c.args.analysis.now.spans.now c.args.analysis.now.spans.now c.from.result c.args.part no_span refl c.from.ensures c.requires.there in
    let parts = c.requires.ready.count in
    let within : c.args.part < length c.args.found.now.parts.items = omega (arith, parts, c.requires.there, length-map c.args.found.now.parts.items (λ (z : RegionNeeds). z.locks.keys)) in
    let locks_are = locks_before c.args.found.now.parts.items c.args.part c.from-3.result c.index.result.now c.args.found.now.list c.from-3.ensures within c.index.ensures ∙ sym c.as_slice-locks.ensures.keys in
    let count = c.requires.masks.count in
    let room : c.args.part < length c.args.masks.now.items = omega (arith, count, c.requires.there, length-map c.args.masks.now.items items_of) in
    let at = stands_at c.args.masks.now.items c.args.masks.now.items c.from-4.result c.args.part c.index_mut.result.now refl c.from-4.ensures room ∙ ap Some (sym c.index_mut.ensures.value) in
    masks_of (read c.args.analysis.now) (table c.args.found.now) c.args.part _ there c.as_slice-locks.result.now locks_are (seen_by c.view-view.result) c.view-view.ensures (map items_of c.args.masks.now.items) c.index_mut.result.now.list.items
    (mapped_at items_of c.args.masks.now.items c.args.part c.index_mut.result.now at) c.requires.masks

pub returns-clause-masks : goal.returns-clause-masks
returns-clause-masks c =
    let there = stands_at c.args.analysis.now.spans.now c.args.analysis.now.spans.now c.from.result c.args.part no_span refl c.from.ensures c.requires.there in
    let parts = c.requires.ready.count in
    let within : c.args.part < length c.args.found.now.parts.items = omega (arith, parts, c.requires.there, length-map c.args.found.now.parts.items (λ (z : RegionNeeds). z.locks.keys)) in
    let locks_are = locks_before c.args.found.now.parts.items c.args.part c.from-3.result c.index.result.now c.args.found.now.list c.from-3.ensures within c.index.ensures ∙ sym c.as_slice-locks.ensures.keys in
    on_more c.find_touched.result _ _
    (λ is.
    subst (AreAllMasks (read c.args.analysis.now) (table c.args.found.now)) (sym (map_set items_of c.args.masks.now.items c.from-4.result c.find_touched.new.masks))
    (subst (λ n. AreAllMasks (read c.args.analysis.now) (table c.args.found.now) (slice_set (map items_of c.args.masks.now.items) n c.find_touched.new.masks.list.items)) (sym c.from-4.ensures)
    (masks_back (read c.args.analysis.now) (table c.args.found.now) c.args.part _ there c.as_slice-locks.result.now locks_are (seen_by c.view-view.result) c.view-view.ensures (map items_of c.args.masks.now.items) c.find_touched.new.masks.list.items is c.requires.masks)))
    c.find_touched.ensures.masks

pub returns-clause-touched : goal.returns-clause-touched
returns-clause-touched c =
    let there = stands_at c.args.analysis.now.spans.now c.args.analysis.now.spans.now c.from.result c.args.part no_span refl c.from.ensures c.requires.there in
    let parts = c.requires.ready.count in
    let within : c.args.part < length c.args.found.now.parts.items = omega (arith, parts, c.requires.there, length-map c.args.found.now.parts.items (λ (z : RegionNeeds). z.locks.keys)) in
    let locks_are = locks_before c.args.found.now.parts.items c.args.part c.from-3.result c.index.result.now c.args.found.now.list c.from-3.ensures within c.index.ensures ∙ sym c.as_slice-locks.ensures.keys in
    on_more c.find_touched.result _ _
    (λ is n m not at. stays_ok (read c.args.analysis.now) (table c.args.found.now) c.args.part c.args.pc _ _ there
    (stands_at c.args.analysis.now.lowering.now.code c.code.result.now c.from-2.result c.args.pc _ c.code.ensures.code c.from-2.ensures c.requires.code)
    c.as_slice-locks.result.now locks_are (seen_by c.view-view.result) c.view-view.ensures n m (is n m not (ap (λ (l : List Lock). slice_get l n) (sym locks_are) ∙ at)) at)
    c.find_touched.ensures.touched
