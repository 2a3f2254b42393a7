use Rattle.std.proofs.Common.{◌≡◌, true, sym, ◌∙◌, subst}
use Rattle.asl_code.specs.declared.lock.Lock.{Lock}
use Rattle.asl_code.specs.contracts.lock.LockPartialEq.TheImpl.{ghosts}
use Rattle.asl_code.proofs.Same.{same_lock, itself_lock}
use Rattle.asl_check.proofs.locks.are_same.Goals as goal

pub returns : goal.returns
returns c = (
  λ t. same_lock _ _ (sym c.eq.ensures ∙ t),
  λ e. c.eq.ensures ∙ subst (λ (x : Lock). ghosts.eq c.args.lock.now x ≡ true) e (itself_lock c.args.lock.now),
)
