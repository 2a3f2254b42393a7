use Rattle.std.proofs.Common.{Ok, Err, OnErr, refl, subst}
use Rattle.asl_lock_forest.specs.Held.{Held}
use Rattle.asl_lock_forest.specs.Holding.{CanGrant}
use Rattle.asl_lock_forest.specs.Request.{IsRefusedRequest}
use Rattle.asl_lock_forest.proofs.Grantable.{refused_cannot}
use Rattle.asl_lock_forest.proofs.SoundLaws.{free_can, blocked_refused}
use Rattle.asl_lock_forest.proofs.forest.Forest.try_acquire.Goals as goal

pub grant-requires-clause-free : goal.grant-requires-clause-free
grant-requires-clause-free c =
    subst (λ (f : Held). CanGrant f.holding c.args.thread c.args.request.now) c.self.view_is
    (free_can c.self.invariant c.args.thread c.args.request.now (c.can_grant.ensures.free c.if-not-can_grant.false))

pub returns-then-not-can_grant-clause-refused : goal.returns-then-not-can_grant-clause-refused
returns-then-not-can_grant-clause-refused c _ =
    subst (λ (f : Held). IsRefusedRequest f.holding c.args.thread c.args.request.now) c.self.view_is
    (blocked_refused c.self.invariant c.args.thread c.args.request.now (c.can_grant.ensures.blocked c.if-not-can_grant.true))

pub returns-then-not-can_grant-clause-granted : goal.returns-then-not-can_grant-clause-granted
returns-then-not-can_grant-clause-granted c =
    (λ h. cc, λ can. absurd (refused_cannot _ _ _ (returns-then-not-can_grant-clause-refused c refl) can))

pub returns-clause-granted : goal.returns-clause-granted
returns-clause-granted c = (
  λ _. subst (λ (f : Held). CanGrant f.holding c.args.thread c.args.request.now) c.self.view_is
      (free_can c.self.invariant c.args.thread c.args.request.now (c.can_grant.ensures.free c.if-not-can_grant.false)),
  λ can. refl,
)

pub returns-in_err-grant-clause-memory : goal.returns-in_err-grant-clause-memory
returns-in_err-grant-clause-memory c =
    let can = subst (λ (f : Held). CanGrant f.holding c.args.thread c.args.request.now) c.self.view_is
    (free_can c.self.invariant c.args.thread c.args.request.now (c.can_grant.ensures.free c.if-not-can_grant.false)) in
    elim c.from_residual.result as (λ r. OnErr r (CanGrant c.args.self.now.holding c.args.thread c.args.request.now)) [ Ok all ↦ tt | Err refused ↦ can ]
