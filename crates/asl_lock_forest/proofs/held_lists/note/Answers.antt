use Rattle.std.proofs.Common.{◌≡◌, ◌++◌, [], if◌then◌else◌, map, slice_set, ap, sym, ◌∙◌}
use Rattle.std.proofs.lemmas.List.{get_or-map, set-get_or}
use Rattle.asl_lock_forest.proofs.SoundLaws.{map_set, ok_says, err_says}
use Rattle.asl_lock_forest.proofs.held_lists.note.Goals as goal

pub returns-clause-ok : goal.returns-clause-ok
returns-clause-ok c = ok_says c.extend_from_slice.result (λ ok.
    let was : c.index_mut.result.now.items ≡ [] =
    ap (λ v. v.items) c.index_mut.ensures.value ∙ sym (get_or-map (λ v. v.items) c.args.held.now.items c.args.thread _ [] c.requires.there) ∙ c.requires.empty in
    map_set (λ v. v.items) c.args.held.now.items c.args.thread _
    ∙ ap (slice_set (map (λ v. v.items) c.args.held.now.items) c.args.thread)
    (c.extend_from_slice.ensures.items ∙ ap (λ b. if b then c.index_mut.result.now.items ++ c.args.request.now else c.index_mut.result.now.items) ok
    ∙ ap (λ l. l ++ c.args.request.now) was))

pub returns-clause-err : goal.returns-clause-err
returns-clause-err c = err_says c.extend_from_slice.result (λ no.
    map_set (λ v. v.items) c.args.held.now.items c.args.thread _
    ∙ ap (slice_set (map (λ v. v.items) c.args.held.now.items) c.args.thread)
    (c.extend_from_slice.ensures.items ∙ ap (λ b. if b then c.index_mut.result.now.items ++ c.args.request.now else c.index_mut.result.now.items) no
    ∙ ap (λ v. v.items) c.index_mut.ensures.value ∙ sym (get_or-map (λ v. v.items) c.args.held.now.items c.args.thread _ [] c.requires.there))
    ∙ set-get_or (map (λ v. v.items) c.args.held.now.items) c.args.thread [])
