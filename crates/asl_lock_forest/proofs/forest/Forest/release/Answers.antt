use Rattle.std.proofs.Common.{◌≡◌, ◌<◌, [], length, map, slice_index_or, get_or, ap, sym, subst, ◌∙◌, arith}
use Rattle.std.proofs.lemmas.List.{get_or-map, length-map}
use Rattle.asl_lock_forest.specs.Node.{IsThere}
use Rattle.asl_lock_forest.specs.Held.{Held}
use Rattle.asl_lock_forest.specs.Rows.{Clears}
use Rattle.asl_lock_forest.specs.Holding.{HoldsNothing, release}
use Rattle.asl_lock_forest.specs.Lists.{holding_of}
use Rattle.asl_lock_forest.proofs.Laws.{nothing_released, nothing_kept_release}
use Rattle.asl_lock_forest.proofs.ListLaws.{lists_released}
use Rattle.asl_lock_forest.proofs.SoundLaws.{listed_there, sound_release}
use Rattle.asl_lock_forest.proofs.forest.Forest.release.Goals as goal

pub release-requires-clause-there : goal.release-requires-clause-there
release-requires-clause-there c k d there =
    let within : c.args.thread < c.self.inside.threads = subst (λ (f : Held). c.args.thread < f.threads) (sym c.self.view_is) c.requires in
    let count = c.self.invariant.lists_there in
    let same = length-map c.self.inside.held.items (λ v. v.items) in
    let own : c.as_slice.result.now ≡ slice_index_or (map (λ v. v.items) c.self.inside.held.items) c.args.thread [] =
    c.as_slice.ensures.value ∙ ap (λ v. v.items) c.index.ensures
    ∙ sym (get_or-map (λ v. v.items) c.self.inside.held.items c.args.thread _ [] (omega (arith, within, count, same))) in
    subst (λ l. IsThere (length c.self.inside.rows.classes.items) (get_or l k d).0) (sym own)
    (listed_there c.self.invariant c.args.thread k d (subst (λ l. k < length l) own there))

pub invariant_of-self : goal.invariant_of-self
invariant_of-self c =
    let within : c.args.thread < c.self.inside.threads = subst (λ (f : Held). c.args.thread < f.threads) (sym c.self.view_is) c.requires in
    let count = c.self.invariant.lists_there in
    let same = length-map c.self.inside.held.items (λ v. v.items) in
    let own : c.as_slice.result.now ≡ slice_index_or (map (λ v. v.items) c.self.inside.held.items) c.args.thread [] =
    c.as_slice.ensures.value ∙ ap (λ v. v.items) c.index.ensures
    ∙ sym (get_or-map (λ v. v.items) c.self.inside.held.items c.args.thread _ [] (omega (arith, within, count, same))) in
    sound_release c.self.invariant c.args.thread c.release.new.self _ within
    (subst (λ l. Clears c.self.inside.rows c.args.thread l c.release.new.self) own c.release.ensures) c.forget.ensures

released : (c : goal.After-forget) → holding_of (map (λ v. v.items) c.forget.new.held.items) ≡ release c.args.self.now.holding c.args.thread
released c =
    let within : c.args.thread < c.self.inside.threads = subst (λ (f : Held). c.args.thread < f.threads) (sym c.self.view_is) c.requires in
    let count = c.self.invariant.lists_there in
    let there : c.args.thread < length (map (λ v. v.items) c.self.inside.held.items) = omega (arith, within, count) in
    ap holding_of c.forget.ensures
    ∙ lists_released (map (λ v. v.items) c.self.inside.held.items) c.args.thread there
    ∙ ap (λ (f : Held). release f.holding c.args.thread) c.self.view_is

pub returns-clause-holding : goal.returns-clause-holding
returns-clause-holding c = released c

pub returns-clause-nothing : goal.returns-clause-nothing
returns-clause-nothing c = subst (λ h. HoldsNothing h c.args.thread) (sym (released c)) (nothing_released c.args.self.now.holding c.args.thread)

pub returns-clause-others : goal.returns-clause-others
returns-clause-others c other nothing =
    subst (λ h. HoldsNothing h other) (sym (released c)) (nothing_kept_release c.args.self.now.holding c.args.thread other nothing)

pub returns-clause-lawful : goal.returns-clause-lawful
returns-clause-lawful c = (invariant_of-self c).forest
