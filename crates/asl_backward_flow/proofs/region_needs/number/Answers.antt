use Rattle.std.proofs.Common.{ap, sym, ◌∙◌, Some}
use Rattle.asl_code.specs.contracts.lock.LockPartialEq.TheImpl.{ghosts}
use Rattle.asl_code.proofs.Same.{same_lock, itself_lock}
use Rattle.asl_backward_flow.proofs.Sets.{made_numbers, same_numbers}
use Rattle.asl_backward_flow.proofs.region_needs.number.Goals as goal

pub returns-clause-stored : goal.returns-clause-stored
returns-clause-stored c = let s = c.in_ok-number.ensures.stored in s.1 ∙ ap Some (sym (same_lock _ _ s.2))

pub returns-clause-numbers : goal.returns-clause-numbers
returns-clause-numbers c = made_numbers ghosts.eq itself_lock _ _ _ c.in_ok-number.ensures.keys c.in_ok-number.ensures.unique

pub returns-in_err-number-clause-numbers : goal.returns-in_err-number-clause-numbers
returns-in_err-number-clause-numbers c = same_numbers ghosts.eq itself_lock _ _ _ c.in_err-number.ensures.err c.in_err-number.ensures.unique
