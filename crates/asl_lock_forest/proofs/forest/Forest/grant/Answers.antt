use Rattle.std.proofs.Common.{◌≡◌, ◌<◌, map, ap, sym, subst, ◌∙◌, arith}
use Rattle.asl_lock_forest.specs.Held.{Held}
use Rattle.asl_lock_forest.specs.Holding.{HoldsNothing, CanGrant, grant}
use Rattle.asl_lock_forest.specs.Request.{IsOfClasses}
use Rattle.asl_lock_forest.specs.Lists.{holding_of}
use Rattle.asl_lock_forest.specs.Sound.{IsSound}
use Rattle.asl_lock_forest.proofs.Laws.{nothing_kept_grant}
use Rattle.asl_lock_forest.proofs.ListLaws.{lists_granted, unnamed_list}
use Rattle.asl_lock_forest.proofs.SoundLaws.{sound_reserved, sound_grant, nothing_named}
use Rattle.asl_lock_forest.proofs.forest.Forest.grant.Goals as goal

pub returns-then-is_empty-clause-lawful : goal.returns-then-is_empty-clause-lawful
returns-then-is_empty-clause-lawful c = c.self.invariant.forest

pub invariant_of-self-in_err-reserve : goal.invariant_of-self-in_err-reserve
invariant_of-self-in_err-reserve c = sound_reserved c.self.invariant c.reserve.ensures.kept c.reserve.ensures.same

pub grant-requires-clause-kept : goal.grant-requires-clause-kept
grant-requires-clause-kept c = (sound_reserved c.self.invariant c.reserve.ensures.kept c.reserve.ensures.same).kept

pub note-requires-clause-empty : goal.note-requires-clause-empty
note-requires-clause-empty c =
    nothing_named _ (unnamed_list _ c.args.thread (subst (λ (f : Held). HoldsNothing f.holding c.args.thread) (sym c.self.view_is) c.requires.nothing_held))

pub invariant_of-self-in_err-note : goal.invariant_of-self-in_err-note
invariant_of-self-in_err-note c =
    subst (IsSound _ _ _) (sym c.in_err-note.ensures.err) (sound_reserved c.self.invariant c.reserve.ensures.kept c.reserve.ensures.same)

pub invariant_of-self-2 : goal.invariant_of-self-2
invariant_of-self-2 c =
    sound_grant (sound_reserved c.self.invariant c.reserve.ensures.kept c.reserve.ensures.same) c.args.thread c.args.request.now c.grant.new.self _
    (subst (λ (f : Held). c.args.thread < f.threads) (sym c.self.view_is) c.requires.thread_there)
    (subst (λ (f : Held). HoldsNothing f.holding c.args.thread) (sym c.self.view_is) c.requires.nothing_held)
    c.requires.modes c.requires.parents (subst (λ (f : Held). IsOfClasses f.classes c.args.request.now) (sym c.self.view_is) c.requires.classes_there)
    (subst (λ (f : Held). CanGrant f.holding c.args.thread c.args.request.now) (sym c.self.view_is) c.requires.free) c.grant.ensures c.in_ok-note.ensures.ok

granted : (c : goal.After-grant) → holding_of (map (λ v. v.items) c.note.new.held.items) ≡ grant c.args.self.now.holding c.args.thread c.args.request.now
granted c =
    let count = c.self.invariant.lists_there in
    let within : c.args.thread < c.self.inside.threads = subst (λ (f : Held). c.args.thread < f.threads) (sym c.self.view_is) c.requires.thread_there in
    ap holding_of c.in_ok-note.ensures.ok
    ∙ lists_granted (map (λ v. v.items) c.self.inside.held.items) c.args.thread c.args.request.now (omega (arith, count, within))
    (subst (λ (f : Held). HoldsNothing f.holding c.args.thread) (sym c.self.view_is) c.requires.nothing_held)
    ∙ ap (λ (f : Held). grant f.holding c.args.thread c.args.request.now) c.self.view_is

pub returns-clause-holding : goal.returns-clause-holding
returns-clause-holding c = granted c

pub returns-clause-others : goal.returns-clause-others
returns-clause-others c other apart nothing =
    subst (λ h. HoldsNothing h other) (sym (granted c)) (nothing_kept_grant c.args.self.now.holding c.args.thread c.args.request.now other apart nothing)

pub returns-clause-lawful : goal.returns-clause-lawful
returns-clause-lawful c = (invariant_of-self-2 c).forest
